-- First places by marks.
use Rattle.std.proofs.Common.{◌≡◌, ℕ, ◌+◌, ◌-◌, ◌/◌, ◌%◌, ◌^◌, ◌<◌, ◌≤◌, Bool, true, false, eqb, cond, Option, List, length, get_or, drop, map, Some, None, MatchOption, inl, inr, refl, sym, ap, ◌∙◌, arith}
use Rattle.std.proofs.lemmas.Bool.{cases_lt}
use Rattle.std.specs.Int.{bit_at}
use Rattle.std.specs.Slice.Scan.{HoldsNowhere}
use Rattle.std.specs.Simd.Lanes.{chunk, mask_l}
use Rattle.std.proofs.lemmas.Simd.{bit_mask_l, mask_l-lt, length-chunk}
use Rattle.std.proofs.lemmas.Nat.{shr-shr, shr_below}
use Rattle.std.proofs.lemmas.Nat.Bits.{bit_at_above, bit_at-zero}
use Rattle.std.proofs.lemmas.List.{length-map, get_or-map, get_or-take, get_or-drop}
use Rattle.lane_scan.specs.Places.{IsFirstBetween, AreMarks}

eqb_cond : (b : Bool) → eqb (cond b 1 0) 1 ≡ b
eqb_cond true = refl
eqb_cond false = refl

-- lanes that pass are marked
pub lanes_tell : (test : ℕ → Bool) (xs : List ℕ) (at : ℕ) → at + 16 ≤ length xs
    → AreMarks (λ k. test (get_or xs k 0)) at 16 (mask_l (map test (chunk at 16 xs)))
lanes_tell test xs at room =
    let v = chunk at 16 xs in
    let long = length-chunk at 16 xs room in
    let marks : length (map test v) ≡ 16 = length-map v test ∙ long in
    record {
      each = λ j below.
          ap (λ (n : ℕ). eqb n 1) (bit_mask_l (map test v) j) ∙ eqb_cond (get_or (map test v) j false)
          ∙ get_or-map test v j 0 false (omega (arith, long)) ∙ ap test (get_or-take 16 (drop at xs) j 0 below ∙ get_or-drop at xs j 0);
      low = rw marks at (mask_l-lt (map test v));
    }

-- marks from a later place on
pub tells_from : (test : ℕ → Bool) (at n k marks place : ℕ) → k ≤ n → at + k ≡ place → AreMarks test at n marks → AreMarks test place (n - k) (marks / 2 ^ k)
tells_from test at n k marks place within is told = record {
  each = λ j below.
      let there : k + j < n = omega arith in
      let here : at + (k + j) ≡ place + j = omega arith in
      ap (λ (x : ℕ). eqb (x % 2) 1) (shr-shr marks k j) ∙ told.each (k + j) there ∙ ap test here;
  low = let whole : n - k + k ≡ n = omega arith in shr_below marks (n - k) k (rw whole told.low);
}

-- no mark, and no place passes
pub no_mark : (test : ℕ → Bool) (at n marks end : ℕ) → AreMarks test at n marks → marks ≡ 0 → end ≤ at + n → HoldsNowhere test at end
no_mark test at n marks end told none within k from below =
    let there : k - at < n = omega arith in
    let here : at + (k - at) ≡ k = omega arith in
    sym (ap test here) ∙ sym (told.each (k - at) there) ∙ ap (λ (m : ℕ). eqb (bit_at m (k - at)) 1) none ∙ ap (λ (x : ℕ). eqb x 1) (bit_at-zero (k - at))

-- the lowest mark
pub record IsLowest (marks q : ℕ) : Type 0 where
  pub is_set : bit_at marks q ≡ 1
  pub before : (j : ℕ) → j < q → bit_at marks j ≡ 0

lowest-lt : (test : ℕ → Bool) (at n marks q : ℕ) → AreMarks test at n marks → IsLowest marks q → q < n
lowest-lt test at n marks q told low =
    elim (cases_lt q n) [
      | inl below ↦ below
      | inr past ↦ absurd (omega (arith, bit_at_above marks n q told.low past, low.is_set))
    ]

none_before : (test : ℕ → Bool) (at n marks q end : ℕ) → AreMarks test at n marks → IsLowest marks q → end ≤ at + q → HoldsNowhere test at end
none_before test at n marks q end told low within k from below =
    let there : k - at < q = omega arith in
    let here : at + (k - at) ≡ k = omega arith in
    let inside : k - at < n = omega (arith, lowest-lt test at n marks q told low) in
    sym (ap test here) ∙ sym (told.each (k - at) inside) ∙ ap (λ (x : ℕ). eqb x 1) (low.before (k - at) there)

-- the lowest mark is the first place that passes, if it stands before the end
pub first_mark : (test : ℕ → Bool) (at n marks q end : ℕ) (found : Option ℕ) → AreMarks test at n marks → IsLowest marks q
    → MatchOption found (end ≤ at + q) (λ place. (place ≡ at + q) × (place < end))
    → MatchOption found (HoldsNowhere test at end) (IsFirstBetween test at end)
first_mark test at n marks q end None told low past = none_before test at n marks q end told low past
first_mark test at n marks q end (Some place) told low here = record {
  from = omega (arith, here.0);
  below = here.1;
  passes = ap test here.0 ∙ sym (told.each q (lowest-lt test at n marks q told low)) ∙ ap (λ (x : ℕ). eqb x 1) low.is_set;
  before = none_before test at n marks q place told low (omega (arith, here.0));
}
