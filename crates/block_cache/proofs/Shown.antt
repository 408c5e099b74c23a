-- The pairs of an `lru` cache, and what is seen of them.
use Rattle.std.proofs.Common.{◌≡◌, ◌≤◌, Bool, true, false, cond, ℕ, List, [], ◌∷◌, length, take, map, refl, sym, ap, ◌∙◌, subst, arith}
use Rattle.std.specs.Prelude.{Option, Some, None, option_map, is_some}
use Rattle.std.specs.Option.{option_map_or}
use Rattle.std.specs.Map.{lookup, lookup_entry, remove_entry}
use Rattle.std.proofs.lemmas.List.{take_all, take-map, length-map}
use Rattle.std.proofs.lemmas.Map.Made.{lookup-map_values}
use Rattle.lru.proofs.Pairs.{lookup-lookup_entry}
use Rattle.lru.proofs.CallerLemmas.{Contains-lookup_entry}
use Rattle.lru.specs.LruCache.{promoted}
use Rattle.block_cache.specs.Kept.{BlockPlace, KeptBlock, is_place, kept_of, brought_first, with_kept}
use Rattle.block_cache.proofs.Places.{its_place, removed_none, removed_one}
use Rattle.block_cache.proofs.Gives.{missed, hit, get_count, keep_count}

module _ {X : Type 0} (seen : X → List ℕ) where
  abbrev pub shown : List (BlockPlace × X) → List KeptBlock
  shown = map (λ e. (e.0, seen e.1))

  shown_others : (test : BlockPlace → Bool) (es : List (BlockPlace × X)) → remove_entry test (shown es) ≡ shown (remove_entry test es)
  shown_others test [] = refl
  shown_others test (e ∷ es) = elim (test e.0) as (λ t. cond t (shown es) ((e.0, seen e.1) ∷ remove_entry test (shown es)) ≡ shown (cond t es (e ∷ remove_entry test es))) [
    | true ↦ refl
    | false ↦ ap (λ (l : List KeptBlock). (e.0, seen e.1) ∷ l) (shown_others test es)
  ]

  pub shown_kept : (place : BlockPlace) (es : List (BlockPlace × X)) → kept_of place (shown es) ≡ option_map seen (lookup (is_place place) es)
  shown_kept place es = lookup-map_values seen (is_place place) es

  -- the first pair of a place: there is none, or it has that place
  by_entry : (P : Option (BlockPlace × X) → Type 0) (place : BlockPlace) (es : List (BlockPlace × X))
      → (lookup (is_place place) es ≡ None → P None) → ((x : X) → lookup (is_place place) es ≡ Some x → P (Some (place, x))) → P (lookup_entry (is_place place) es)
  by_entry P place es none some = elim (lookup_entry (is_place place) es) as (λ o. lookup_entry (is_place place) es ≡ o → P o) [
    | None ↦ λ e. none (sym (lookup-lookup_entry (is_place place) es) ∙ ap (option_map (λ p. p.1)) e)
    | Some p ↦ λ e.
        let its : p.0 ≡ place = its_place place p.0 (Contains-lookup_entry (is_place place) es p e).1 in
        subst (λ (k : BlockPlace). P (Some (k, p.1))) (sym its) (some p.1 (sym (lookup-lookup_entry (is_place place) es) ∙ ap (option_map (λ q. q.1)) e))
  ] refl

  pub shown_first : (place : BlockPlace) (es : List (BlockPlace × X)) → shown (promoted (is_place place) es) ≡ brought_first place (shown es)
  shown_first place es =
      by_entry (λ o. shown (option_map_or (λ e. e ∷ remove_entry (is_place place) es) o es) ≡ brought_first place (shown es)) place es
      (λ none. sym (missed place (shown es) (shown_kept place es ∙ ap (option_map seen) none)))
      (λ x some. sym (hit place (shown es) (seen x) (shown_kept place es ∙ ap (option_map seen) some) ∙ ap (λ (l : List KeptBlock). (place, seen x) ∷ l) (shown_others (is_place place) es)))

  -- one pair more, where there are at most 64
  pub shown_with : (place : BlockPlace) (x : X) (es : List (BlockPlace × X)) → length es ≤ 64
      → shown (option_map_or (λ e. (e.0, x) ∷ remove_entry (is_place place) es) (lookup_entry (is_place place) es) ((place, x) ∷ take 63 es)) ≡ with_kept place (seen x) (shown es)
  shown_with place x es few =
      by_entry (λ o. shown (option_map_or (λ e. (e.0, x) ∷ remove_entry (is_place place) es) o ((place, x) ∷ take 63 es)) ≡ with_kept place (seen x) (shown es)) place es
      (λ none. ap (λ (l : List KeptBlock). (place, seen x) ∷ l)
      (sym (take-map (λ e. (e.0, seen e.1)) 63 es) ∙ ap (take 63) (sym (removed_none (is_place place) (shown es) (shown_kept place es ∙ ap (option_map seen) none)))))
      (λ y some. ap (λ (l : List KeptBlock). (place, seen x) ∷ l)
      (ap shown (sym (take_all 63 (remove_entry (is_place place) es) (omega (arith, few, removed_one (is_place place) es y some))))
      ∙ sym (take-map (λ e. (e.0, seen e.1)) 63 (remove_entry (is_place place) es))
      ∙ ap (take 63) (sym (shown_others (is_place place) es))))

  shown_count : (es : List (BlockPlace × X)) → length (shown es) ≡ length es
  shown_count es = length-map es _

  pub first_count : (place : BlockPlace) (es : List (BlockPlace × X)) → length (promoted (is_place place) es) ≡ length es
  first_count place es =
      sym (shown_count (promoted (is_place place) es)) ∙ ap length (shown_first place es) ∙ get_count place (shown es) ∙ shown_count es

  pub with_count : (place : BlockPlace) (x : X) (es : List (BlockPlace × X)) → length es ≤ 64
      → length (option_map_or (λ e. (e.0, x) ∷ remove_entry (is_place place) es) (lookup_entry (is_place place) es) ((place, x) ∷ take 63 es)) ≤ 64
  with_count place x es few =
      subst (λ (n : ℕ). n ≤ 64) (ap length (sym (shown_with place x es few)) ∙ shown_count _) (keep_count place (seen x) (shown es))

  pub is_some-seen : (o : Option X) → is_some (option_map seen o) ≡ is_some o
  is_some-seen None = refl
  is_some-seen (Some x) = refl
