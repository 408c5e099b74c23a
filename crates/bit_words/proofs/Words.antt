-- Bits of two words that stand side by side.
use Rattle.std.proofs.Common.{◌≡◌, ◌≢◌, ℕ, ◌+◌, ◌-◌, ◌*◌, ◌/◌, ◌%◌, ◌^◌, ◌<◌, ◌≤◌, Bool, true, false, eqb, ◌||◌, List, zero, suc, length, get_or, set, max, refl, sym, ap, ◌∙◌, arith, inl, inr, lit<}
use Rattle.std.specs.Int.{bit_at}
use Rattle.std.specs.Int.RustNames.{bit_or}
use Rattle.std.proofs.lemmas.Nat.Bits.{bit_at_or, bit_at-lt, bit_at-zero, bit_at_above, bit_at_cat_low, bit_at_cat_high}
use Rattle.std.proofs.lemmas.Nat.{pow_pos}
use Rattle.std.proofs.lemmas.List.{length-set, get_or_past, get_or-set_same, get_or-set_other}
use Rattle.std.proofs.lemmas.Bool.{cases_lt, cases_eq}
use Rattle.bit_model.specs.Packed.{packed_bit}
use Rattle.bit_words.proofs.Bytes.{bit_at-shr, bit_at-low}

-- ---- shifted words

shifted_below : (n s j : ℕ) → j < s → bit_at (n * 2 ^ s) j ≡ 0
shifted_below n s j h =
    let e : n * 2 ^ s ≡ n * 2 ^ s + 0 = omega arith in
    ap (λ (x : ℕ). bit_at x j) e ∙ bit_at_cat_low n s 0 j h ∙ bit_at-zero j

shifted_from : (n s j : ℕ) → s ≤ j → bit_at (n * 2 ^ s) j ≡ bit_at n (j - s)
shifted_from n s j h =
    let e : n * 2 ^ s ≡ n * 2 ^ s + 0 = omega arith in
    ap (λ (x : ℕ). bit_at x j) e ∙ bit_at_cat_high n s 0 j (pow_pos s) h

-- a word shifted up has zero bits below, and then those of the number
pub shl_below : (n s j : ℕ) → j < s → j < 64 → bit_at (n * 2 ^ s % 2 ^ 64) j ≡ 0
shl_below n s j h within = bit_at-low (n * 2 ^ s) 64 j within ∙ shifted_below n s j h

pub shl_from : (n s j : ℕ) → s + j < 64 → bit_at (n * 2 ^ s % 2 ^ 64) (s + j) ≡ bit_at n j
shl_from n s j within =
    let e : s + j - s ≡ j = omega arith in
    bit_at-low (n * 2 ^ s) 64 (s + j) within ∙ shifted_from n s (s + j) (omega arith) ∙ ap (bit_at n) e

-- ---- reading

-- the bit in the first word
pub read_first : (ws : List ℕ) (i j : ℕ) → i % 64 + j < 64
    → bit_at (get_or ws (i / 64) 0 / 2 ^ (i % 64)) j ≡ bit_at (get_or ws ((i + j) / 64) 0) ((i + j) % 64)
read_first ws i j within =
    let number : i / 64 ≡ (i + j) / 64 = omega arith in
    let place : i % 64 + j ≡ (i + j) % 64 = omega arith in
    bit_at-shr (get_or ws (i / 64) 0) (i % 64) j
    ∙ ap (λ (x : ℕ). bit_at (get_or ws x 0) (i % 64 + j)) number ∙ ap (λ (x : ℕ). bit_at (get_or ws ((i + j) / 64) 0) x) place

-- no bit of the first word is left
past_first : (w i j : ℕ) → w < 2 ^ 64 → 64 ≤ i % 64 + j → bit_at (w / 2 ^ (i % 64)) j ≡ 0
past_first w i j fits past = bit_at-shr w (i % 64) j ∙ bit_at_above w 64 (i % 64 + j) fits past

-- the bit in one of the two words
pub read_both : (ws : List ℕ) (i j : ℕ) → ((k : ℕ) → get_or ws k 0 < 2 ^ 64) → j < 64 → 0 < i % 64
    → bit_at (bit_or (get_or ws (i / 64) 0 / 2 ^ (i % 64)) (get_or ws (i / 64 + 1) 0 * 2 ^ (64 - i % 64) % 2 ^ 64)) j
    ≡ bit_at (get_or ws ((i + j) / 64) 0) ((i + j) % 64)
read_both ws i j fit below part =
    let low = get_or ws (i / 64) 0 / 2 ^ (i % 64) in
    let high = get_or ws (i / 64 + 1) 0 * 2 ^ (64 - i % 64) % 2 ^ 64 in
    bit_at_or low high j
    ∙ elim (cases_lt (i % 64 + j) 64) [
      | inl within ↦
          ap (λ (x : ℕ). max (bit_at low j) x) (shl_below (get_or ws (i / 64 + 1) 0) (64 - i % 64) j (omega arith) below)
          ∙ ap (λ (x : ℕ). max x 0) (read_first ws i j within) ∙ omega arith
      | inr past ↦
          let number : i / 64 + 1 ≡ (i + j) / 64 = omega arith in
          let place : i % 64 + j - 64 ≡ (i + j) % 64 = omega arith in
          let here : (64 - i % 64) + (i % 64 + j - 64) ≡ j = omega arith in
          let read : bit_at high j ≡ bit_at (get_or ws ((i + j) / 64) 0) ((i + j) % 64) =
          ap (bit_at high) (sym here) ∙ shl_from (get_or ws (i / 64 + 1) 0) (64 - i % 64) (i % 64 + j - 64) (omega arith)
          ∙ ap (λ (x : ℕ). bit_at (get_or ws x 0) (i % 64 + j - 64)) number ∙ ap (λ (x : ℕ). bit_at (get_or ws ((i + j) / 64) 0) x) place in
          ap (λ (x : ℕ). max x (bit_at high j)) (past_first (get_or ws (i / 64) 0) i j (fit (i / 64)) past) ∙ ap (λ (x : ℕ). max 0 x) read ∙ omega arith
    ]

-- ---- writing

or_bits : (x y : ℕ) → x < 2 → y < 2 → eqb (max x y) 1 ≡ eqb x 1 || eqb y 1
or_bits zero zero h k = refl
or_bits zero (suc zero) h k = refl
or_bits zero (suc (suc y)) h k = absurd (omega arith)
or_bits (suc zero) zero h k = refl
or_bits (suc zero) (suc zero) h k = refl
or_bits (suc zero) (suc (suc y)) h k = absurd (omega arith)
or_bits (suc (suc x)) y h k = absurd (omega arith)

or_none : (b : Bool) → b || false ≡ b
or_none true = refl
or_none false = refl

-- words below 2 ^ 64, and nothing past their end
pub words_fit : (ws : List ℕ) → ((k d : ℕ) → k < length ws → get_or ws k d < 2 ^ 64) → (k : ℕ) → get_or ws k 0 < 2 ^ 64
words_fit ws fit k =
    elim (cases_lt k (length ws)) [
      | inl there ↦ fit k 0 there
      | inr past ↦ rw (get_or_past ws k 0 past) (lit< tt)
    ]

pub set_elsewhere : (ws : List ℕ) (k word i : ℕ) → i / 64 ≢ k → packed_bit 64 (set ws k word) i ≡ packed_bit 64 ws i
set_elsewhere ws k word i other = ap (λ (n : ℕ). eqb (bit_at n (i % 64)) 1) (get_or-set_other ws k (i / 64) word 0 other)

set_there : (ws : List ℕ) (k word part i : ℕ) → k < length ws → word ≡ get_or ws k 0 → i / 64 ≡ k
    → packed_bit 64 (set ws k (bit_or word part)) i ≡ packed_bit 64 ws i || eqb (bit_at part (i % 64)) 1
set_there ws k word part i there is here =
    ap (λ (x : ℕ). eqb (bit_at (get_or (set ws k (bit_or word part)) x 0) (i % 64)) 1) here
    ∙ ap (λ (n : ℕ). eqb (bit_at n (i % 64)) 1) (get_or-set_same ws k (bit_or word part) 0 there)
    ∙ ap (λ (n : ℕ). eqb (bit_at (bit_or n part) (i % 64)) 1) is
    ∙ ap (λ (n : ℕ). eqb (bit_at (bit_or (get_or ws n 0) part) (i % 64)) 1) (sym here)
    ∙ ap (λ (n : ℕ). eqb n 1) (bit_at_or (get_or ws (i / 64) 0) part (i % 64))
    ∙ or_bits (bit_at (get_or ws (i / 64) 0) (i % 64)) (bit_at part (i % 64)) (bit_at-lt (get_or ws (i / 64) 0) (i % 64)) (bit_at-lt part (i % 64))

or_zero : (b : Bool) (x : ℕ) → x ≡ 0 → b ≡ b || eqb x 1
or_zero b x none = sym (or_none b) ∙ ap (λ (n : ℕ). b || eqb n 1) (sym none)

-- the first word takes the number from place i on
pub first_before : (ws : List ℕ) (i word n j : ℕ) → i / 64 < length ws → word ≡ get_or ws (i / 64) 0 → j < i
    → packed_bit 64 (set ws (i / 64) (bit_or word (n * 2 ^ (i % 64) % 2 ^ 64))) j ≡ packed_bit 64 ws j
first_before ws i word n j there is before =
    elim (cases_eq (j / 64) (i / 64)) [
      | inl here ↦
          let below : j % 64 < i % 64 = omega arith in
          set_there ws (i / 64) word (n * 2 ^ (i % 64) % 2 ^ 64) j there is here
          ∙ sym (or_zero (packed_bit 64 ws j) (bit_at (n * 2 ^ (i % 64) % 2 ^ 64) (j % 64)) (shl_below n (i % 64) (j % 64) below (omega arith)))
      | inr other ↦ set_elsewhere ws (i / 64) (bit_or word (n * 2 ^ (i % 64) % 2 ^ 64)) j other
    ]

first_within : (ws : List ℕ) (i word n j : ℕ) → i / 64 < length ws → word ≡ get_or ws (i / 64) 0 → i % 64 + j < 64
    → packed_bit 64 (set ws (i / 64) (bit_or word (n * 2 ^ (i % 64) % 2 ^ 64))) (i + j) ≡ packed_bit 64 ws (i + j) || eqb (bit_at n j) 1
first_within ws i word n j there is within =
    let here : (i + j) / 64 ≡ i / 64 = omega arith in
    let place : (i + j) % 64 ≡ i % 64 + j = omega arith in
    set_there ws (i / 64) word (n * 2 ^ (i % 64) % 2 ^ 64) (i + j) there is here
    ∙ ap (λ (x : ℕ). packed_bit 64 ws (i + j) || eqb (bit_at (n * 2 ^ (i % 64) % 2 ^ 64) x) 1) place
    ∙ ap (λ (x : ℕ). packed_bit 64 ws (i + j) || eqb x 1) (shl_from n (i % 64) j within)

-- where the first word is all that the number needs
pub first_set : (ws : List ℕ) (i word n count j : ℕ) → i / 64 < length ws → word ≡ get_or ws (i / 64) 0 → n < 2 ^ count → i % 64 + count ≤ 64
    → packed_bit 64 (set ws (i / 64) (bit_or word (n * 2 ^ (i % 64) % 2 ^ 64))) (i + j) ≡ packed_bit 64 ws (i + j) || eqb (bit_at n j) 1
first_set ws i word n count j there is fits enough =
    elim (cases_lt (i % 64 + j) 64) [
      | inl within ↦ first_within ws i word n j there is within
      | inr past ↦
          let other : (i + j) / 64 ≢ i / 64 = omega arith in
          set_elsewhere ws (i / 64) (bit_or word (n * 2 ^ (i % 64) % 2 ^ 64)) (i + j) other
          ∙ or_zero (packed_bit 64 ws (i + j)) (bit_at n j) (bit_at_above n count j fits (omega arith))
    ]

-- where the second takes the rest
pub both_set : (ws : List ℕ) (i word next n j : ℕ) → i / 64 + 1 < length ws → word ≡ get_or ws (i / 64) 0
    → next ≡ get_or (set ws (i / 64) (bit_or word (n * 2 ^ (i % 64) % 2 ^ 64))) (i / 64 + 1) 0 → n < 2 ^ 64 → 0 < i % 64
    → packed_bit 64 (set (set ws (i / 64) (bit_or word (n * 2 ^ (i % 64) % 2 ^ 64))) (i / 64 + 1) (bit_or next (n / 2 ^ (64 - i % 64)))) (i + j)
    ≡ packed_bit 64 ws (i + j) || eqb (bit_at n j) 1
both_set ws i word next n j there is next_is fits part =
    let first = set ws (i / 64) (bit_or word (n * 2 ^ (i % 64) % 2 ^ 64)) in
    elim (cases_eq ((i + j) / 64) (i / 64 + 1)) [
      | inl here ↦
          let long = length-set ws (i / 64) (bit_or word (n * 2 ^ (i % 64) % 2 ^ 64)) in
          let away : (i + j) / 64 ≢ i / 64 = omega arith in
          let place : (64 - i % 64) + (i + j) % 64 ≡ j = omega arith in
          set_there first (i / 64 + 1) next (n / 2 ^ (64 - i % 64)) (i + j) (omega (arith, long)) next_is here
          ∙ ap (λ (b : Bool). b || eqb (bit_at (n / 2 ^ (64 - i % 64)) ((i + j) % 64)) 1) (set_elsewhere ws (i / 64) (bit_or word (n * 2 ^ (i % 64) % 2 ^ 64)) (i + j) away)
          ∙ ap (λ (x : ℕ). packed_bit 64 ws (i + j) || eqb x 1) (bit_at-shr n (64 - i % 64) ((i + j) % 64) ∙ ap (bit_at n) place)
      | inr other ↦
          set_elsewhere first (i / 64 + 1) (bit_or next (n / 2 ^ (64 - i % 64))) (i + j) other
          ∙ elim (cases_lt (i % 64 + j) 64) [
            | inl within ↦ first_within ws i word n j (omega arith) is within
            | inr past ↦
                let away : (i + j) / 64 ≢ i / 64 = omega arith in
                set_elsewhere ws (i / 64) (bit_or word (n * 2 ^ (i % 64) % 2 ^ 64)) (i + j) away
                ∙ or_zero (packed_bit 64 ws (i + j)) (bit_at n j) (bit_at_above n 64 j fits (omega arith))
          ]
    ]
