-- Set bits counted word by word.
use Rattle.std.proofs.Common.{◌≡◌, ℕ, ◌+◌, ◌-◌, ◌*◌, ◌≤◌, List, length, get_or, take, drop, zero, suc, Fits, w64, ap, ◌∙◌, arith, inl, inr, add-zero}
use Rattle.std.specs.List.{sum_by}
use Rattle.std.specs.Int.RustNames.{count_ones}
use Rattle.std.proofs.lemmas.Nat.{ones-le}
use Rattle.std.proofs.lemmas.List.{take_all}
use Rattle.std.proofs.lemmas.List.Sums.{sum_by_more, sum_by-append}
use Rattle.std.proofs.lemmas.Bool.{cases_lt}
use Rattle.std.proofs.Math.Seq.{take-add}
use Rattle.lane_scan.specs.Ones.{ones_before}

ones_before_more : (words : List ℕ) → ((k : ℕ) → Fits w64 (get_or words k 0)) → (i : ℕ) → ones_before words (i + 1) ≤ ones_before words i + 64
ones_before_more words fit i =
    elim (cases_lt i (length words)) [
      | inl below ↦ omega (arith, sum_by_more count_ones words i 0 below, ones-le 64 (get_or words i 0) (fit i).fits)
      | inr past ↦ omega (arith, ap (sum_by count_ones) (take_all (i + 1) words (omega arith)), ap (sum_by count_ones) (take_all i words past))
    ]

-- the n words from place i on have at most 64 * n set bits
pub ones_before-le : (words : List ℕ) → ((k : ℕ) → Fits w64 (get_or words k 0)) → (i n : ℕ) → ones_before words (i + n) ≤ ones_before words i + 64 * n
ones_before-le words fit i zero = rw (add-zero i) (omega arith)
ones_before-le words fit i (suc n) =
    let next : i + suc n ≡ (i + n) + 1 = omega arith in
    rw next (omega (arith, ones_before_more words fit (i + n), ones_before-le words fit i n))

pub ones_between-le : (words : List ℕ) → ((k : ℕ) → Fits w64 (get_or words k 0)) → (i j : ℕ) → i ≤ j → ones_before words j ≤ ones_before words i + 64 * (j - i)
ones_between-le words fit i j h =
    let all : i + (j - i) ≡ j = omega arith in
    rw all at (ones_before-le words fit i (j - i))

pub ones_before-add : (words : List ℕ) (i n : ℕ) → ones_before words (i + n) ≡ ones_before words i + sum_by count_ones (take n (drop i words))
ones_before-add words i n = ap (sum_by count_ones) (take-add i n words) ∙ sum_by-append count_ones (take i words) (take n (drop i words))

pub ones_before_all : (words : List ℕ) (i : ℕ) → length words ≤ i → ones_before words i ≡ sum_by count_ones words
ones_before_all words i all = ap (sum_by count_ones) (take_all i words all)
