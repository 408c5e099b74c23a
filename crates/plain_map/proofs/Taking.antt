-- A slice taken pair by pair.
use Rattle.std.proofs.Common.{◌≡◌, ℕ, zero, suc, ◌+◌, ◌-◌, ◌<◌, ◌≤◌, [], ◌∷◌, ◌++◌, length, take, drop, get_or, refl, sym, ap, ◌∙◌, true, false, arith}
use Rattle.std.specs.Prelude.{Option}
use Rattle.std.proofs.lemmas.List.{append-nil, append_assoc, drop_all, length_push}
use Rattle.map_model.specs.SortedMap.{Bytes, Map}
use Rattle.map_model.specs.Slices.{is_between, between, slice}
use Rattle.map_model.proofs.Between.{kept, left_out}
use Rattle.plain_map.proofs.Places.{from_here}

-- what was taken, and what is to be taken of the pairs from a place on, is the whole slice
abbrev pub Takes : Map → ℕ → Map → Bytes → Option Bytes → ℕ → Type 0
Takes taken at map lo hi n = taken ++ take (n - length taken) (between (drop at map) lo hi) ≡ slice map lo hi n

pub takes_one : (taken : Map) (at : ℕ) (map : Map) (lo : Bytes) (hi : Option Bytes) (n : ℕ) (pair : Bytes × Bytes)
    → at < length map → pair ≡ get_or map at pair → length taken < n → is_between lo hi pair.0 ≡ true → Takes taken at map lo hi n → Takes (taken ++ pair ∷ []) (at + 1) map lo hi n
takes_one taken at map lo hi n pair within is room inside takes =
    let left : n - length taken ≡ suc (n - length (taken ++ pair ∷ [])) = omega (arith, length_push taken pair) in
    append_assoc taken (pair ∷ []) (take (n - length (taken ++ pair ∷ [])) (between (drop (at + 1) map) lo hi))
    ∙ ap (λ (k : ℕ). taken ++ take k (pair ∷ between (drop (at + 1) map) lo hi)) (sym left)
    ∙ ap (λ (m : Map). taken ++ take (n - length taken) m) (sym (kept pair (drop (at + 1) map) lo hi inside))
    ∙ ap (λ (m : Map). taken ++ take (n - length taken) (between m lo hi)) (sym (from_here map at pair within is))
    ∙ takes

pub passes_one : (taken : Map) (at : ℕ) (map : Map) (lo : Bytes) (hi : Option Bytes) (n : ℕ) (pair : Bytes × Bytes)
    → at < length map → pair ≡ get_or map at pair → is_between lo hi pair.0 ≡ false → Takes taken at map lo hi n → Takes taken (at + 1) map lo hi n
passes_one taken at map lo hi n pair within is apart takes =
    ap (λ (m : Map). taken ++ take (n - length taken) m) (sym (left_out pair (drop (at + 1) map) lo hi apart))
    ∙ ap (λ (m : Map). taken ++ take (n - length taken) (between m lo hi)) (sym (from_here map at pair within is))
    ∙ takes

pub takes_no_more : (taken : Map) (at : ℕ) (map : Map) (lo : Bytes) (hi : Option Bytes) (n : ℕ) → n ≤ length taken → Takes taken at map lo hi n → Takes taken (at + 1) map lo hi n
takes_no_more taken at map lo hi n full takes =
    let none : n - length taken ≡ 0 = omega arith in
    ap (λ (k : ℕ). taken ++ take k (between (drop (at + 1) map) lo hi)) none
    ∙ ap (λ (k : ℕ). taken ++ take k (between (drop at map) lo hi)) (sym none)
    ∙ takes

take-nothing : (k : ℕ) → take {A = Bytes × Bytes} k [] ≡ []
take-nothing zero = refl
take-nothing (suc k) = refl

pub takes_all : (taken : Map) (at : ℕ) (map : Map) (lo : Bytes) (hi : Option Bytes) (n : ℕ) → length map ≤ at → Takes taken at map lo hi n → taken ≡ slice map lo hi n
takes_all taken at map lo hi n past takes =
    sym (append-nil taken) ∙ ap (λ (m : Map). taken ++ m) (sym (take-nothing (n - length taken)))
    ∙ ap (λ (m : Map). taken ++ take (n - length taken) (between m lo hi)) (sym (drop_all at map past))
    ∙ takes
