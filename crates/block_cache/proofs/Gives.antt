-- The laws of the blocks that are kept.
use Rattle.std.proofs.Common.{◌≡◌, ◌≢◌, ◌≤◌, ◌<◌, Bool, true, false, cond, ℕ, List, [], ◌∷◌, length, take, refl, sym, ap, ◌∙◌, subst, arith}
use Rattle.std.specs.Prelude.{Option, Some, None, fold}
use Rattle.std.specs.Option.{option_map_or}
use Rattle.std.proofs.lemmas.List.{take_all, length-take}
use Rattle.block_cache.specs.Kept.{BlockPlace, KeptBlock, is_place, kept_of, others, brought_first, with_kept}
use Rattle.block_cache.specs.Laws.{Use, Get, Keep, after_use, after_keep, last_kept}
use Rattle.block_cache.proofs.Places.{true-false, same_place, its_place, other_place, removed_one, removed_fewer, removed_elsewhere, found_among_first}

-- the same place, or another
pub by_place : (P : Type 0) (place other : BlockPlace) → (other ≡ place → P) → (other ≢ place → P) → P
by_place P place other same apart = elim (is_place place other) as (λ x. is_place place other ≡ x → P) [
  | true ↦ λ e. same (its_place place other e)
  | false ↦ λ e. apart (λ is. true-false (sym (same_place place) ∙ ap (is_place place) (sym is) ∙ e))
] refl

-- a block in front is found at its place, and at no other
pub found_here : (place : BlockPlace) (bytes : List ℕ) (kept : List KeptBlock) → kept_of place ((place, bytes) ∷ kept) ≡ Some bytes
found_here place bytes kept = ap (λ (x : Bool). cond x (Some bytes) (kept_of place kept)) (same_place place)

pub not_found_here : (place other : BlockPlace) (bytes : List ℕ) (kept : List KeptBlock) → other ≢ place → kept_of other ((place, bytes) ∷ kept) ≡ kept_of other kept
not_found_here place other bytes kept apart = ap (λ (x : Bool). cond x (Some bytes) (kept_of other kept)) (other_place other place (λ e. apart (sym e)))

others_elsewhere : (place other : BlockPlace) (kept : List KeptBlock) → other ≢ place → kept_of other (others place kept) ≡ kept_of other kept
others_elsewhere place other kept apart =
    removed_elsewhere (is_place place) (is_place other) (λ third is. other_place other third (λ e. apart (sym e ∙ its_place place third is))) kept

-- ---- get

pub missed : (place : BlockPlace) (kept : List KeptBlock) → kept_of place kept ≡ None → brought_first place kept ≡ kept
missed place kept none = ap (λ (o : Option (List ℕ)). option_map_or (λ bytes. (place, bytes) ∷ others place kept) o kept) none

pub hit : (place : BlockPlace) (kept : List KeptBlock) (bytes : List ℕ) → kept_of place kept ≡ Some bytes → brought_first place kept ≡ (place, bytes) ∷ others place kept
hit place kept bytes some = ap (λ (o : Option (List ℕ)). option_map_or (λ bytes. (place, bytes) ∷ others place kept) o kept) some

-- a get is of a block that is kept, or of none
by_get : (P : List KeptBlock → Type 0) (place : BlockPlace) (kept : List KeptBlock)
    → ((bytes : List ℕ) → kept_of place kept ≡ Some bytes → P ((place, bytes) ∷ others place kept)) → P kept → P (brought_first place kept)
by_get P place kept some none = elim (kept_of place kept) as (λ o. kept_of place kept ≡ o → P (option_map_or (λ bytes. (place, bytes) ∷ others place kept) o kept)) [
  | Some bytes ↦ λ e. some bytes e
  | None ↦ λ e. none
] refl

pub get_same : (place other : BlockPlace) (kept : List KeptBlock) → kept_of other (brought_first place kept) ≡ kept_of other kept
get_same place other kept =
    by_get (λ (l : List KeptBlock). kept_of other l ≡ kept_of other kept) place kept
    (λ bytes found. by_place (kept_of other ((place, bytes) ∷ others place kept) ≡ kept_of other kept) place other
    (λ same. subst (λ (p : BlockPlace). kept_of p ((place, bytes) ∷ others place kept) ≡ kept_of p kept) (sym same) (found_here place bytes (others place kept) ∙ sym found))
    (λ apart. not_found_here place other bytes (others place kept) apart ∙ others_elsewhere place other kept apart))
    refl

pub get_count : (place : BlockPlace) (kept : List KeptBlock) → length (brought_first place kept) ≡ length kept
get_count place kept =
    by_get (λ (l : List KeptBlock). length l ≡ length kept) place kept
    (λ bytes found. omega (arith, removed_one (is_place place) kept bytes found))
    refl

-- ---- keep

pub keep_here : (place : BlockPlace) (bytes : List ℕ) (kept : List KeptBlock) → kept_of place (with_kept place bytes kept) ≡ Some bytes
keep_here place bytes kept = found_here place bytes (take 63 (others place kept))

pub keep_elsewhere : (place other : BlockPlace) (bytes found : List ℕ) (kept : List KeptBlock) → other ≢ place → kept_of other (with_kept place bytes kept) ≡ Some found → kept_of other kept ≡ Some found
keep_elsewhere place other bytes found kept apart is =
    sym (others_elsewhere place other kept apart)
    ∙ found_among_first (is_place other) 63 (others place kept) found (sym (not_found_here place other bytes (take 63 (others place kept)) apart) ∙ is)

pub keep_stays : (place other : BlockPlace) (bytes : List ℕ) (kept : List KeptBlock) → other ≢ place → length kept < 64 → kept_of other (with_kept place bytes kept) ≡ kept_of other kept
keep_stays place other bytes kept apart room =
    not_found_here place other bytes (take 63 (others place kept)) apart
    ∙ ap (kept_of other) (take_all 63 (others place kept) (omega (arith, room, removed_fewer (is_place place) kept)))
    ∙ others_elsewhere place other kept apart

pub keep_count : (place : BlockPlace) (bytes : List ℕ) (kept : List KeptBlock) → length (with_kept place bytes kept) ≤ 64
keep_count place bytes kept = omega (arith, length-take 63 (others place kept))

-- ---- uses

-- what is found of a block is what it was kept with last
abbrev Finds : BlockPlace → List KeptBlock → Option (List ℕ) → Type 0
Finds place kept last = (bytes : List ℕ) → kept_of place kept ≡ Some bytes → last ≡ Some bytes

finds_after : (place : BlockPlace) (kept : List KeptBlock) (last : Option (List ℕ)) (step : Use) → Finds place kept last → Finds place (after_use kept step) (after_keep place last step)
finds_after place kept last (Get other) finds bytes is = finds bytes (sym (get_same other place kept) ∙ is)
finds_after place kept last (Keep other new) finds bytes is =
    elim (is_place place other) as (λ x. is_place place other ≡ x → cond x (Some new) last ≡ Some bytes) [
      | true ↦ λ e. sym (subst (λ (p : BlockPlace). kept_of p (with_kept other new kept) ≡ Some new) (its_place place other e) (keep_here other new kept)) ∙ is
      | false ↦ λ e. finds bytes (keep_elsewhere other place new bytes kept (λ same. true-false (sym (same_place place) ∙ ap (is_place place) same ∙ e)) is)
    ] refl

finds_all : (place : BlockPlace) (uses : List Use) (kept : List KeptBlock) (last : Option (List ℕ)) → Finds place kept last → Finds place (fold after_use kept uses) (fold (after_keep place) last uses)
finds_all place [] kept last finds = finds
finds_all place (step ∷ uses) kept last finds = finds_all place uses (after_use kept step) (after_keep place last step) (finds_after place kept last step finds)

pub given_as_kept : (uses : List Use) (place : BlockPlace) (bytes : List ℕ) → kept_of place (fold after_use [] uses) ≡ Some bytes → last_kept place uses ≡ Some bytes
given_as_kept uses place = finds_all place uses [] None (λ bytes none. cc)
