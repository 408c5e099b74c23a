-- The numbers and the waking keys of the tables that a scan may open, one table more.
use Rattle.std.proofs.Common.{◌≡◌, ◌∙◌, ◌<◌, ◌+◌, ◌-◌, ℕ, suc, cond, List, [], ◌∷◌, ◌++◌, drop, length, get_or, refl, sym, ap, add-one, append_assoc, arith, length-drop, drop-cons}
use Rattle.std.specs.Prelude.{Option, Some, None, is_some, map}
use Rattle.std.specs.Option.{option_map}
use Rattle.std.proofs.lemmas.List.{map-append}
use Rattle.map_model.specs.SortedMap.{Bytes}
use Rattle.store_core.specs.Scans.{keys_admitting, numbers_admitting, waking_between}
use Rattle.table_file.specs.Opened.{Opened}

module _ (low : Bytes) (high : Option Bytes) (tables : List Opened) (place : ℕ) (t : Opened) (less : place < length tables) (at : t ≡ get_or tables place t) where
  abbrev left : List Opened
  left = drop (place + 1) tables

  left_is : drop place tables ≡ t ∷ left
  left_is = rw (add-one, drop-cons tables place t) (ap (λ (u : Opened). u ∷ drop (suc place) tables) (sym at))

  numbers_first : (o : Option Bytes) → waking_between low high t ≡ o
      → numbers_admitting low high (drop place tables) ≡ cond (is_some o) (length left ∷ numbers_admitting low high left) (numbers_admitting low high left)
  numbers_first o is =
      ap (numbers_admitting low high) left_is ∙ ap (λ (k : Option Bytes). cond (is_some k) (length left ∷ numbers_admitting low high left) (numbers_admitting low high left)) is

  keys_first : (o : Option Bytes) → waking_between low high t ≡ o → keys_admitting low high (drop place tables) ≡ cond (is_some o) (o ∷ keys_admitting low high left) (keys_admitting low high left)
  keys_first o is = ap (keys_admitting low high) left_is ∙ ap (λ (k : Option Bytes). cond (is_some k) (k ∷ keys_admitting low high left) (keys_admitting low high left)) is

  numbers_more : (which : List ℕ) (key : Bytes) → waking_between low high t ≡ Some key → which ++ numbers_admitting low high (drop place tables) ≡ numbers_admitting low high tables
      → (which ++ (length tables - 1 - place) ∷ []) ++ numbers_admitting low high left ≡ numbers_admitting low high tables
  numbers_more which key is so =
      let many : length tables - 1 - place ≡ length left = omega (arith, length-drop (place + 1) tables) in
      append_assoc which ((length tables - 1 - place) ∷ []) (numbers_admitting low high left)
      ∙ ap (λ (n : ℕ). which ++ n ∷ numbers_admitting low high left) many
      ∙ ap (λ (l : List ℕ). which ++ l) (sym (numbers_first (Some key) is))
      ∙ so

  keys_more : (keys : List (Option Bytes)) (key : Bytes) → waking_between low high t ≡ Some key → keys ++ keys_admitting low high (drop place tables) ≡ keys_admitting low high tables
      → (keys ++ Some key ∷ []) ++ keys_admitting low high left ≡ keys_admitting low high tables
  keys_more keys key is so =
      append_assoc keys (Some key ∷ []) (keys_admitting low high left) ∙ ap (λ (l : List (Option Bytes)). keys ++ l) (sym (keys_first (Some key) is)) ∙ so

  numbers_same : (which : List ℕ) → waking_between low high t ≡ None → which ++ numbers_admitting low high (drop place tables) ≡ numbers_admitting low high tables
      → which ++ numbers_admitting low high left ≡ numbers_admitting low high tables
  numbers_same which is so = ap (λ (l : List ℕ). which ++ l) (sym (numbers_first None is)) ∙ so

  keys_same : (keys : List (Option Bytes)) → waking_between low high t ≡ None → keys ++ keys_admitting low high (drop place tables) ≡ keys_admitting low high tables
      → keys ++ keys_admitting low high left ≡ keys_admitting low high tables
  keys_same keys is so = ap (λ (l : List (Option Bytes)). keys ++ l) (sym (keys_first None is)) ∙ so

  -- what was found of them so far, and what is left
  abbrev pub IsFound : {K : Type 0} → (K → Bytes) → List ℕ → List (Option K) → ℕ → Type 0
  IsFound seen which keys from =
      (which ++ numbers_admitting low high (drop from tables) ≡ numbers_admitting low high tables) × (map (option_map seen) keys ++ keys_admitting low high (drop from tables) ≡ keys_admitting low high tables)

  pub one_found : {K : Type 0} (seen : K → Bytes) (found : Option K) (key : K) (which more : List ℕ) (keys with : List (Option K)) → option_map seen found ≡ waking_between low high t → found ≡ Some key
      → more ≡ which ++ (length tables - 1 - place) ∷ [] → with ≡ keys ++ Some key ∷ [] → IsFound seen which keys place → IsFound seen more with (place + 1)
  one_found seen found key which more keys with said is many all so =
      let here : waking_between low high t ≡ Some (seen key) = sym said ∙ ap (option_map seen) is in (
        ap (λ (l : List ℕ). l ++ numbers_admitting low high left) many ∙ numbers_more which (seen key) here so.0,
        ap (λ (l : List (Option Bytes)). l ++ keys_admitting low high left) (ap (map (option_map seen)) all ∙ map-append (option_map seen) keys (Some key ∷ []))
            ∙ keys_more (map (option_map seen) keys) (seen key) here so.1,
      )

  pub none_found : {K : Type 0} (seen : K → Bytes) (found : Option K) (which more : List ℕ) (keys with : List (Option K)) → option_map seen found ≡ waking_between low high t → ((key : K) → found ≡ Some key → ⊥)
      → more ≡ which → with ≡ keys → IsFound seen which keys place → IsFound seen more with (place + 1)
  none_found seen None which more keys with said none many all so = (
    ap (λ (l : List ℕ). l ++ numbers_admitting low high left) many ∙ numbers_same which (sym said) so.0,
    ap (λ l. map (option_map seen) l ++ keys_admitting low high left) all ∙ keys_same (map (option_map seen) keys) (sym said) so.1,
  )
  none_found seen (Some key) which more keys with said none many all so = absurd (none key refl)
