-- The word of a set bit among the first four, by what is set in these.
use Rattle.std.proofs.Common.{◌≡◌, ℕ, ◌+◌, ◌-◌, ◌<◌, ◌≤◌, Bool, List, length, get_or, cond, nat_le, ap, refl, arith, inl, inr}
use Rattle.std.specs.Int.RustNames.{count_ones}
use Rattle.std.proofs.lemmas.Bool.{cases_lt, le-leb, lt-leb}
use Rattle.std.proofs.lemmas.List.Sums.{sum_by_more}
use Rattle.lane_scan.specs.Ones.{IsWordOfOne, ones_before}

one_more : (words : List ℕ) (i : ℕ) → i < length words → ones_before words (i + 1) ≡ ones_before words i + count_ones (get_or words i 0)
one_more words i below = sum_by_more count_ones words i 0 below

at_word : (words : List ℕ) (n k left i : ℕ) → k ≡ i → ones_before words i + left ≡ n → left < count_ones (get_or words i 0) → i < length words → IsWordOfOne words n k left
at_word words n k left i same before inside within = record {
  within = omega (arith, same, within);
  before = omega (arith, before, ap (ones_before words) same);
  inside = omega (arith, inside, ap (λ (j : ℕ). count_ones (get_or words j 0)) same);
}

passed : (bound n count : ℕ) → bound ≤ n → cond (nat_le bound n) count 0 ≡ count
passed bound n count l = ap (λ (b : Bool). cond b count 0) (le-leb bound n l)

ahead : (bound n count : ℕ) → n < bound → cond (nat_le bound n) count 0 ≡ 0
ahead bound n count l = ap (λ (b : Bool). cond b count 0) (lt-leb bound n l)

-- a, b, c bits are set in the first word, the first two and the first three; each count is taken where its bits are passed
pub near : (words : List ℕ) (n a b c : ℕ) → 4 ≤ length words → a ≡ count_ones (get_or words 0 0) → b ≡ a + count_ones (get_or words 1 0) → c ≡ b + count_ones (get_or words 2 0)
    → n < c + count_ones (get_or words 3 0)
    → IsWordOfOne words n (cond (nat_le a n) 1 0 + cond (nat_le b n) 1 0 + cond (nat_le c n) 1 0) (n - (cond (nat_le a n) a 0 + cond (nat_le b n) (b - a) 0 + cond (nat_le c n) (c - b) 0))
near words n a b c long first second third few =
    let one : ones_before words 1 ≡ a = omega (arith, one_more words 0 (omega (arith, long)), first) in
    let two : ones_before words 2 ≡ b = omega (arith, one_more words 1 (omega (arith, long)), one, second) in
    let three : ones_before words 3 ≡ c = omega (arith, one_more words 2 (omega (arith, long)), two, third) in
    elim (cases_lt n a) [
      | inl here ↦
          at_word words n _ _ 0
          (omega (arith, ahead a n 1 here, ahead b n 1 (omega (arith, here, second)), ahead c n 1 (omega (arith, here, second, third))))
          (omega (arith, ahead a n a here, ahead b n (b - a) (omega (arith, here, second)), ahead c n (c - b) (omega (arith, here, second, third))))
          (omega (arith, here, first))
          (omega (arith, long))
      | inr past ↦ elim (cases_lt n b) [
        | inl here ↦
            at_word words n _ _ 1
            (omega (arith, passed a n 1 past, ahead b n 1 here, ahead c n 1 (omega (arith, here, third))))
            (omega (arith, one, past, passed a n a past, ahead b n (b - a) here, ahead c n (c - b) (omega (arith, here, third))))
            (omega (arith, past, here, second, passed a n a past, ahead b n (b - a) here, ahead c n (c - b) (omega (arith, here, third))))
            (omega (arith, long))
        | inr past' ↦ elim (cases_lt n c) [
          | inl here ↦
              at_word words n _ _ 2
              (omega (arith, passed a n 1 past, passed b n 1 past', ahead c n 1 here))
              (omega (arith, two, past', second, passed a n a past, passed b n (b - a) past', ahead c n (c - b) here))
              (omega (arith, past', here, second, third, passed a n a past, passed b n (b - a) past', ahead c n (c - b) here))
              (omega (arith, long))
          | inr last ↦
              at_word words n _ _ 3
              (omega (arith, passed a n 1 past, passed b n 1 past', passed c n 1 last))
              (omega (arith, three, last, second, third, passed a n a past, passed b n (b - a) past', passed c n (c - b) last))
              (omega (arith, last, few, second, third, passed a n a past, passed b n (b - a) past', passed c n (c - b) last))
              (omega (arith, long))
        ]
      ]
    ]
