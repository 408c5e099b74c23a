-- Where a pair goes in a map, and what is left without a key.
use Rattle.std.proofs.Common.{◌≡◌, ℕ, zero, suc, ◌+◌, ◌<◌, ◌≤◌, [], ◌∷◌, ◌++◌, length, take, drop, get_or, set, refl, sym, ap, ◌∙◌, true, false, cond, not, arith}
use Rattle.std.specs.Prelude.{bytes_eq, filter, insert}
use Rattle.std.specs.List.{AllWithin}
use Rattle.std.specs.declared.cmp.Ordering.{Ordering}
use Rattle.std.specs.declared.cmp.Ordering.TheVariants.{Less, Equal, Greater}
use Rattle.std.proofs.lemmas.List.{set_split, drop_more, drop_all}
use Rattle.map_model.specs.SortedMap.{Bytes, Map, byte_order, put, in_place, del}

-- the key is above those before the place
abbrev pub IsAbove : Bytes → Map → ℕ → Type 0
IsAbove key map at = AllWithin (λ (pair : Bytes × Bytes). byte_order key pair.0 ≡ Greater) map 0 at

put_behind : (map : Map) (key value : Bytes) (at : ℕ) → at ≤ length map → IsAbove key map at → put map key value ≡ take at map ++ put (drop at map) key value
put_behind map key value zero within above = refl
put_behind [] key value (suc at) within above = absurd (omega arith)
put_behind (pair ∷ more) key value (suc at) within above =
    ap (λ (o : Ordering). in_place o (key, value) pair more (put more key value)) (above 0 pair (omega arith) (omega arith))
    ∙ ap (λ (m : Map). pair ∷ m) (put_behind more key value at (omega arith) (λ k d low high. above (suc k) d (omega arith) (omega arith)))

-- the pairs from a place on
pub from_here : (map : Map) (at : ℕ) (pair : Bytes × Bytes) → at < length map → pair ≡ get_or map at pair → drop at map ≡ pair ∷ drop (at + 1) map
from_here map at pair within is = drop_more map at pair within ∙ ap (λ (p : Bytes × Bytes). p ∷ drop (at + 1) map) (sym is)

pub missing_here : (map : Map) (key : Bytes) (at : ℕ) (pair : Bytes × Bytes) → at < length map → IsAbove key map at → pair ≡ get_or map at pair → byte_order key pair.0 ≡ Less
    → (at ≤ length map) × ((value : Bytes) → put map key value ≡ insert map at (key, value))
missing_here map key at pair within above is less = (
  omega arith,
  λ value.
      put_behind map key value at (omega arith) above
      ∙ ap (λ (m : Map). take at map ++ put m key value) (from_here map at pair within is)
      ∙ ap (λ (o : Ordering). take at map ++ in_place o (key, value) pair (drop (at + 1) map) (put (drop (at + 1) map) key value)) less
      ∙ ap (λ (m : Map). take at map ++ (key, value) ∷ m) (sym (from_here map at pair within is)),
)

pub found_here : (map : Map) (key : Bytes) (at : ℕ) (pair : Bytes × Bytes) → at < length map → IsAbove key map at → pair ≡ get_or map at pair → byte_order key pair.0 ≡ Equal
    → (at < length map) × ((value : Bytes) → put map key value ≡ set map at (key, value))
found_here map key at pair within above is equal = (
  within,
  λ value.
      let next : at + 1 ≡ suc at = omega arith in
      put_behind map key value at (omega arith) above
      ∙ ap (λ (m : Map). take at map ++ put m key value) (from_here map at pair within is)
      ∙ ap (λ (o : Ordering). take at map ++ in_place o (key, value) pair (drop (at + 1) map) (put (drop (at + 1) map) key value)) equal
      ∙ ap (λ (k : ℕ). take at map ++ (key, value) ∷ drop k map) next
      ∙ sym (set_split map at (key, value) within),
)

pub missing_at_end : (map : Map) (key : Bytes) (at : ℕ) → length map ≤ at → at ≤ length map → IsAbove key map at
    → (at ≤ length map) × ((value : Bytes) → put map key value ≡ insert map at (key, value))
missing_at_end map key at past within above = (
  within,
  λ value.
      put_behind map key value at within above
      ∙ ap (λ (m : Map). take at map ++ put m key value) (drop_all at map past)
      ∙ ap (λ (m : Map). take at map ++ (key, value) ∷ m) (sym (drop_all at map past)),
)

-- ---- del

pub del_filters : (map : Map) (key : Bytes) → filter (λ (pair : Bytes × Bytes). not (bytes_eq pair.0 key)) map ≡ del map key
del_filters [] key = refl
del_filters (pair ∷ more) key =
    elim (bytes_eq pair.0 key) as (λ t. cond (not t) (pair ∷ filter (λ (p : Bytes × Bytes). not (bytes_eq p.0 key)) more) (filter (λ (p : Bytes × Bytes). not (bytes_eq p.0 key)) more) ≡ cond t (del more key) (pair ∷ del more key)) [
      | true ↦ del_filters more key
      | false ↦ ap (λ (m : Map). pair ∷ m) (del_filters more key)
    ]
