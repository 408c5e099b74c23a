-- First places put together.
use Rattle.std.proofs.Common.{◌≡◌, ℕ, ◌<◌, ◌≤◌, Bool, cond, Option, List, length, get_or, Some, None, MatchOption, sym, ap, ◌∙◌, arith, inl, inr, lt-ltb, le-ltb}
use Rattle.std.specs.List.{position, position_or_len}
use Rattle.std.specs.Slice.Scan.{HoldsNowhere}
use Rattle.std.proofs.lemmas.List.Sums.{position_or_len_is}
use Rattle.std.proofs.lemmas.Bool.{cases_lt}
use Rattle.lane_scan.specs.Places.{IsFirstBetween}

position_first : (test : ℕ → Bool) (xs : List ℕ) (i : ℕ) → IsFirstBetween (λ k. test (get_or xs k 0)) 0 (length xs) i → Some i ≡ position test xs
position_first test xs i first =
    let place : position_or_len test xs ≡ i =
    position_or_len_is test xs i 0 (omega (arith, first.below)) (λ k h. first.before k (omega arith) h) (λ _. first.passes) in
    let within : position_or_len test xs < length xs = omega (arith, first.below) in
    sym (ap (λ (b : Bool). cond b (Some (position_or_len test xs)) None) (lt-ltb (position_or_len test xs) (length xs) within) ∙ ap (λ (n : ℕ). Some n) place)

position_none : (test : ℕ → Bool) (xs : List ℕ) → HoldsNowhere (λ k. test (get_or xs k 0)) 0 (length xs) → None ≡ position test xs
position_none test xs none =
    let place : position_or_len test xs ≡ length xs =
    position_or_len_is test xs (length xs) 0 (omega arith) (λ k h. none k (omega arith) h) (λ h. absurd (omega arith)) in
    sym (ap (λ (b : Bool). cond b (Some (position_or_len test xs)) None) (le-ltb (position_or_len test xs) (length xs) (omega arith)))

-- a search of a whole list
pub position_is : (test : ℕ → Bool) (xs : List ℕ) (found : Option ℕ)
    → MatchOption found (HoldsNowhere (λ k. test (get_or xs k 0)) 0 (length xs)) (IsFirstBetween (λ k. test (get_or xs k 0)) 0 (length xs))
    → found ≡ position test xs
position_is test xs None none = position_none test xs none
position_is test xs (Some i) first = position_first test xs i first

pub nowhere_joined : (test : ℕ → Bool) (start at end : ℕ) → HoldsNowhere test start at → HoldsNowhere test at end → HoldsNowhere test start end
nowhere_joined test start at end front rest k from below =
    elim (cases_lt k at) [
      | inl before ↦ front k from before
      | inr behind ↦ rest k behind below
    ]

-- a search from a place on that none before it passes
pub search_joined : (test : ℕ → Bool) (start at end : ℕ) (found : Option ℕ) → start ≤ at → HoldsNowhere test start at
    → MatchOption found (HoldsNowhere test at end) (IsFirstBetween test at end)
    → MatchOption found (HoldsNowhere test start end) (IsFirstBetween test start end)
search_joined test start at end None order front none = nowhere_joined test start at end front none
search_joined test start at end (Some place) order front first = record {
  from = omega (arith, first.from);
  below = first.below;
  passes = first.passes;
  before = nowhere_joined test start at place front first.before;
}
