-- A pair of a map by its parts, and how long they are.
use Rattle.std.proofs.Common.{◌≡◌, ◌≤◌, ◌∙◌, refl, ap, subst, ℕ, true, false, cond, [], ◌∷◌, length}
use Rattle.std.specs.Prelude.{Option, Some, None, bytes_eq, slice_get}
use Rattle.std.specs.List.{AllByRecursion}
use Rattle.std.specs.Option.{option_map}
use Rattle.std.proofs.lemmas.List.Elements.{All-from_recursion, All-get_or}
use Rattle.std.proofs.lemmas.Option.{get_or_from_slice_get, slice_get_within}
use Rattle.map_model.specs.SortedMap.{Bytes, Map, get}

-- ---- short pairs

abbrev pub IsShortPair : Bytes × Bytes → Type 0
IsShortPair pair = (length pair.0 ≤ 1024) × (length pair.1 ≤ 2147483648)

pub value_short : (map : Map) (key value : Bytes) → AllByRecursion IsShortPair map → Some value ≡ get map key → length value ≤ 2147483648
value_short [] key value short is = absurd cc
value_short (pair ∷ more) key value short is =
    elim (bytes_eq pair.0 key) as (λ t. Some value ≡ cond t (Some pair.1) (get more key) → length value ≤ 2147483648) [
      | true ↦ λ here. let same : pair.1 ≡ value = cc in subst (λ (v : Bytes). length v ≤ 2147483648) same short.0.1
      | false ↦ λ later. value_short more key value short.1 later
    ] is

pub pair_short : (map : Map) (n : ℕ) (pair : Bytes × Bytes) → AllByRecursion IsShortPair map → slice_get map n ≡ Some pair → IsShortPair pair
pair_short map n pair short is =
    subst IsShortPair (get_or_from_slice_get map n pair pair is) (All-get_or IsShortPair map n pair (slice_get_within map n pair is) (All-from_recursion IsShortPair map short))

-- a pair by its two parts
pub both_parts : (found : Option (Bytes × Bytes)) (key value : Bytes) → option_map (λ p. p.0) found ≡ Some key → option_map (λ p. p.1) found ≡ Some value → found ≡ Some (key, value)
both_parts None key value first second = absurd cc
both_parts (Some pair) key value first second =
    let k : pair.0 ≡ key = cc in
    let v : pair.1 ≡ value = cc in
    ap (λ (x : Bytes). Some (x, pair.1)) k ∙ ap (λ (y : Bytes). Some (key, y)) v

pub by_key : (found : Option (Bytes × Bytes)) (key : Bytes) → option_map (λ p. p.0) found ≡ Some key → (pair : Bytes × Bytes) × (found ≡ Some pair) × (pair.0 ≡ key)
by_key None key first = absurd cc
by_key (Some pair) key first = let same : pair.0 ≡ key = cc in (pair, refl, same)
