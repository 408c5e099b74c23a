-- Set bits of words by their places.
use Rattle.std.proofs.Common.{◌≡◌, ℕ, ◌+◌, ◌-◌, ◌*◌, ◌/◌, ◌%◌, ◌^◌, ◌<◌, ◌≤◌, Bool, eqb, Option, Some, None, MatchOption, List, length, get_or, suc, sym, ap, ◌∙◌, arith, inl, inr, lit<, refl}
use Rattle.std.proofs.Math.Nat.{mod-lt, div-eq_of_lt-le, two-pow-succ}
use Rattle.std.specs.Int.{bit_at}
use Rattle.std.specs.Slice.Scan.{HoldsNowhere}
use Rattle.std.proofs.lemmas.Nat.{shr-shr, shr_split, pow_pos}
use Rattle.std.proofs.lemmas.Nat.Bits.{bit_at_above, bit_at_cat_low}
use Rattle.std.proofs.lemmas.List.{get_or_past}
use Rattle.std.proofs.lemmas.Bool.{cases_lt}
use Rattle.lane_scan.specs.Places.{is_one_at, IsFirstBetween, IsLastBetween}
use Rattle.lane_scan.proofs.Firsts.{nowhere_joined}
use Rattle.lane_scan.proofs.Marks.{IsLowest}

-- the highest bit is set
pub highest : (n j : ℕ) → 2 ^ j ≤ n → n < 2 ^ suc j → bit_at n j ≡ 1
highest n j least below =
    let one : n / 2 ^ j ≡ 1 = div-eq_of_lt-le (2 ^ j) (omega arith) (omega (arith, two-pow-succ j)) in
    ap (λ (x : ℕ). x % 2) one

low_bit : (n m i : ℕ) → i < m → bit_at (n % 2 ^ m) i ≡ bit_at n i
low_bit n m i h = sym (ap (λ (x : ℕ). bit_at x i) (sym (shr_split n m)) ∙ bit_at_cat_low (n / 2 ^ m) m (n % 2 ^ m) i h)

-- a place by its word and its place there
at_place : (words : List ℕ) (k q i : ℕ) → q < 64 → 64 * k + q ≡ i → is_one_at words i ≡ eqb (bit_at (get_or words k 0) q) 1
at_place words k q i low is =
    let number : i / 64 ≡ k = omega arith in
    let place : i % 64 ≡ q = omega arith in
    ap (λ (x : ℕ). eqb (bit_at (get_or words x 0) (i % 64)) 1) number ∙ ap (λ (x : ℕ). eqb (bit_at (get_or words k 0) x) 1) place

-- none is set behind the words
pub nowhere_past : (words : List ℕ) (end : ℕ) → HoldsNowhere (is_one_at words) (64 * length words) end
nowhere_past words end k from below =
    ap (λ (n : ℕ). eqb (bit_at n (k % 64)) 1) (get_or_past words (k / 64) 0 (omega arith))
    ∙ ap (λ (x : ℕ). eqb x 1) (bit_at_above 0 0 (k % 64) (lit< tt) (omega arith))

-- the lowest set bit of the word of `start`, from that place on
pub first_in_part : (words : List ℕ) (start q : ℕ) → ((k : ℕ) → get_or words k 0 < 2 ^ 64) → start / 64 < length words
    → IsLowest (get_or words (start / 64) 0 / 2 ^ (start % 64)) q → IsFirstBetween (is_one_at words) start (64 * length words) (start + q)
first_in_part words start q fit there low =
    let word = get_or words (start / 64) 0 in
    let inside : start % 64 + q < 64 =
    elim (cases_lt (start % 64 + q) 64) [
      | inl below ↦ below
      | inr past ↦
          let none : bit_at (word / 2 ^ (start % 64)) q ≡ 0 =
          ap (λ (x : ℕ). x % 2) (shr-shr word (start % 64) q) ∙ bit_at_above word 64 (start % 64 + q) (fit (start / 64)) past in
          absurd (omega (arith, none, low.is_set))
    ] in
    let bit : (j : ℕ) → start % 64 + j < 64 → is_one_at words (start + j) ≡ eqb (bit_at (word / 2 ^ (start % 64)) j) 1 =
    λ j below. at_place words (start / 64) (start % 64 + j) (start + j) below (omega arith)
    ∙ ap (λ (x : ℕ). eqb (x % 2) 1) (sym (shr-shr word (start % 64) j)) in
    record {
      from = omega arith;
      below = omega arith;
      passes = bit q inside ∙ ap (λ (x : ℕ). eqb x 1) low.is_set;
      before = λ k from below.
          let near : start % 64 + (k - start) < 64 = omega arith in
          let here : start + (k - start) ≡ k = omega arith in
          sym (ap (is_one_at words) here) ∙ bit (k - start) near ∙ ap (λ (x : ℕ). eqb x 1) (low.before (k - start) (omega arith));
    }

-- the highest set bit of the part of a word below `end`
pub last_in_part : (words : List ℕ) (end q : ℕ) → q < 64 → bit_at (get_or words (end / 64) 0 % 2 ^ (end % 64)) q ≡ 1
    → ((j : ℕ) → q < j → bit_at (get_or words (end / 64) 0 % 2 ^ (end % 64)) j ≡ 0)
    → IsLastBetween (is_one_at words) 0 end (64 * (end / 64) + q)
last_in_part words end q low set behind =
    let word = get_or words (end / 64) 0 in
    let inside : q < end % 64 =
    elim (cases_lt q (end % 64)) [
      | inl below ↦ below
      | inr past ↦ absurd (omega (arith, set, bit_at_above (word % 2 ^ (end % 64)) (end % 64) q (mod-lt word (pow_pos (end % 64))) past))
    ] in
    let bit : (j : ℕ) → j < end % 64 → is_one_at words (64 * (end / 64) + j) ≡ eqb (bit_at (word % 2 ^ (end % 64)) j) 1 =
    λ j below. at_place words (end / 64) j (64 * (end / 64) + j) (omega arith) refl
    ∙ ap (λ (x : ℕ). eqb x 1) (sym (low_bit word (end % 64) j below)) in
    record {
      from = omega arith;
      below = omega arith;
      passes = bit q inside ∙ ap (λ (x : ℕ). eqb x 1) set;
      behind = λ k from below.
          let near : k - 64 * (end / 64) < end % 64 = omega arith in
          let here : 64 * (end / 64) + (k - 64 * (end / 64)) ≡ k = omega arith in
          sym (ap (is_one_at words) here) ∙ bit (k - 64 * (end / 64)) near ∙ ap (λ (x : ℕ). eqb x 1) (behind (k - 64 * (end / 64)) (omega arith));
    }

-- no bit of the part is set
pub none_in_part : (words : List ℕ) (end : ℕ) → get_or words (end / 64) 0 % 2 ^ (end % 64) ≡ 0 → HoldsNowhere (is_one_at words) (64 * (end / 64)) end
none_in_part words end none k from below =
    let near : k - 64 * (end / 64) < end % 64 = omega arith in
    let here : 64 * (end / 64) + (k - 64 * (end / 64)) ≡ k = omega arith in
    at_place words (end / 64) (k - 64 * (end / 64)) k (omega arith) here
    ∙ ap (λ (x : ℕ). eqb x 1)
    (sym (low_bit (get_or words (end / 64) 0) (end % 64) (k - 64 * (end / 64)) near)
    ∙ ap (λ (n : ℕ). bit_at n (k - 64 * (end / 64))) none
    ∙ bit_at_above 0 0 (k - 64 * (end / 64)) (lit< tt) (omega arith))

-- a search that begins at the end, where none from place `at` on passes
pub search_back : (test : ℕ → Bool) (start at end : ℕ) (found : Option ℕ) → at ≤ end → HoldsNowhere test at end
    → MatchOption found (HoldsNowhere test start at) (IsLastBetween test start at)
    → MatchOption found (HoldsNowhere test start end) (IsLastBetween test start end)
search_back test start at end None order rest none = nowhere_joined test start at end none rest
search_back test start at end (Some place) order rest last = record {
  from = last.from;
  below = omega (arith, last.below);
  passes = last.passes;
  behind = nowhere_joined test (place + 1) at end last.behind rest;
}

-- no bit is set from `start` on in its word
pub none_in_rest : (words : List ℕ) (start : ℕ) → get_or words (start / 64) 0 / 2 ^ (start % 64) ≡ 0
    → HoldsNowhere (is_one_at words) start (64 * (start / 64 + 1))
none_in_rest words start none k from below =
    let word = get_or words (start / 64) 0 in
    let near : k - 64 * (start / 64) < 64 = omega arith in
    let here : 64 * (start / 64) + (k - 64 * (start / 64)) ≡ k = omega arith in
    let place : k - 64 * (start / 64) ≡ start % 64 + (k - start) = omega arith in
    at_place words (start / 64) (k - 64 * (start / 64)) k near here
    ∙ ap (λ (x : ℕ). eqb (bit_at word x) 1) place
    ∙ ap (λ (x : ℕ). eqb (x % 2) 1) (sym (shr-shr word (start % 64) (k - start)))
    ∙ ap (λ (n : ℕ). eqb (bit_at n (k - start)) 1) none
    ∙ ap (λ (x : ℕ). eqb x 1) (bit_at_above 0 0 (k - start) (lit< tt) (omega arith))
