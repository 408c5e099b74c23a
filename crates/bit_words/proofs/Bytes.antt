-- Bytes of a packing in words, and words of a packing in bytes.
use Rattle.std.proofs.Common.{◌≡◌, ℕ, ◌+◌, ◌-◌, ◌*◌, ◌/◌, ◌%◌, ◌^◌, ◌<◌, ◌≤◌, Bool, false, eqb, List, zero, suc, length, get_or, drop, min, sym, ap, ◌∙◌, arith, inl, inr, lit<}
use Rattle.std.proofs.Math.Nat.{mod-lt, lt_of_lt_of_le, pow-le-pow_right}
use Rattle.std.specs.Int.{bit_at, div_ceil}
use Rattle.byteorder.specs.Endian.{little_number, little_from}
use Rattle.std.proofs.lemmas.Nat.{shr-shr, shr_split, pow_pos}
use Rattle.std.proofs.lemmas.Nat.Bits.{bit_at_cat_low, bit_at_cat_high, bit_at_above, bit_at-lt, same_from_bits_below}
use Rattle.std.proofs.lemmas.List.{get_or-drop, get_or_past}
use Rattle.std.proofs.lemmas.Bool.{cases_lt}
use Rattle.bit_model.specs.Packed.{packed, unpacked}
use Rattle.bit_words.proofs.Packing.{packed-lt, packed_bit-packed, same_bit, two_pos, first_bit-lt, bit_number-lt, length-unpacked, get_or-unpacked, length-packed}

pub bit_at-shr : (n j i : ℕ) → bit_at (n / 2 ^ j) i ≡ bit_at n (j + i)
bit_at-shr n j i = ap (λ (x : ℕ). x % 2) (shr-shr n j i)

pub bit_at-low : (n m i : ℕ) → i < m → bit_at (n % 2 ^ m) i ≡ bit_at n i
bit_at-low n m i h = sym (ap (λ (x : ℕ). bit_at x i) (sym (shr_split n m)) ∙ bit_at_cat_low (n / 2 ^ m) m (n % 2 ^ m) i h)

-- ---- a byte of the words

byte_bit : (bits : List Bool) (k i : ℕ) → i < 8
    → eqb (bit_at (get_or (packed 64 bits) (k / 8) 0 / 2 ^ (8 * (k % 8)) % 2 ^ 8) i) 1 ≡ get_or bits (8 * k + i) false
byte_bit bits k i h =
    let number : (8 * k + i) / 64 ≡ k / 8 = omega arith in
    let place : (8 * k + i) % 64 ≡ 8 * (k % 8) + i = omega arith in
    ap (λ (x : ℕ). eqb x 1)
    (bit_at-low (get_or (packed 64 bits) (k / 8) 0 / 2 ^ (8 * (k % 8))) 8 i h
    ∙ bit_at-shr (get_or (packed 64 bits) (k / 8) 0) (8 * (k % 8)) i
    ∙ ap (λ (x : ℕ). bit_at (get_or (packed 64 bits) x 0) (8 * (k % 8) + i)) (sym number)
    ∙ ap (λ (x : ℕ). bit_at (get_or (packed 64 bits) ((8 * k + i) / 64) 0) x) (sym place))
    ∙ packed_bit-packed 64 bits (8 * k + i) (lit< tt)

packed_byte_bit : (bits : List Bool) (k i : ℕ) → i < 8 → eqb (bit_at (get_or (packed 8 bits) k 0) i) 1 ≡ get_or bits (8 * k + i) false
packed_byte_bit bits k i h =
    let number : (8 * k + i) / 8 ≡ k = omega arith in
    let place : (8 * k + i) % 8 ≡ i = omega arith in
    ap (λ (x : ℕ). eqb (bit_at (get_or (packed 8 bits) x 0) i) 1) (sym number)
    ∙ ap (λ (x : ℕ). eqb (bit_at (get_or (packed 8 bits) ((8 * k + i) / 8) 0) x) 1) (sym place)
    ∙ packed_bit-packed 8 bits (8 * k + i) (lit< tt)

pub byte_is : (bits : List Bool) (ns : List ℕ) (k : ℕ) → ns ≡ packed 64 bits
    → get_or ns (k / 8) 0 / 2 ^ (8 * (k % 8)) % 2 ^ 8 ≡ get_or (packed 8 bits) k 0
byte_is bits ns k held =
    ap (λ (xs : List ℕ). get_or xs (k / 8) 0 / 2 ^ (8 * (k % 8)) % 2 ^ 8) held
    ∙ same_from_bits_below 8 (get_or (packed 64 bits) (k / 8) 0 / 2 ^ (8 * (k % 8)) % 2 ^ 8) (get_or (packed 8 bits) k 0)
    (mod-lt (get_or (packed 64 bits) (k / 8) 0 / 2 ^ (8 * (k % 8))) (pow_pos 8)) (packed-lt 8 bits k (lit< tt))
    (λ i h. same_bit (bit_at-lt (get_or (packed 64 bits) (k / 8) 0 / 2 ^ (8 * (k % 8)) % 2 ^ 8) i) (bit_at-lt (get_or (packed 8 bits) k 0) i)
    (byte_bit bits k i h ∙ sym (packed_byte_bit bits k i h)))

-- ---- a word of the bytes

-- bit i of the number that n bytes spell
little_bit : (xs : List ℕ) → ((k : ℕ) → get_or xs k 0 < 2 ^ 8) → (n p i : ℕ) → i < 8 * n
    → bit_at (little_from p n xs) i ≡ bit_at (get_or xs (p + i / 8) 0) (i % 8)
little_bit xs fit zero p i h = absurd (omega arith)
little_bit xs fit (suc n) p i h =
    let swap : get_or xs p 0 + 256 * little_from (suc p) n xs ≡ little_from (suc p) n xs * 2 ^ 8 + get_or xs p 0 = omega arith in
    ap (λ (x : ℕ). bit_at x i) swap
    ∙ elim (cases_lt i 8) [
      | inl low ↦
          let number : p ≡ p + i / 8 = omega arith in
          let place : i ≡ i % 8 = omega arith in
          bit_at_cat_low (little_from (suc p) n xs) 8 (get_or xs p 0) i low
          ∙ ap (λ (x : ℕ). bit_at (get_or xs x 0) i) number ∙ ap (λ (x : ℕ). bit_at (get_or xs (p + i / 8) 0) x) place
      | inr high ↦
          let number : suc p + (i - 8) / 8 ≡ p + i / 8 = omega arith in
          let place : (i - 8) % 8 ≡ i % 8 = omega arith in
          bit_at_cat_high (little_from (suc p) n xs) 8 (get_or xs p 0) i (fit p) high
          ∙ little_bit xs fit n (suc p) (i - 8) (omega arith)
          ∙ ap (λ (x : ℕ). bit_at (get_or xs x 0) ((i - 8) % 8)) number ∙ ap (λ (x : ℕ). bit_at (get_or xs (p + i / 8) 0) x) place
    ]

-- bit i of the word that the bytes from place 8 * k on spell, cut to the list's end
word_bit : (bytes : List ℕ) (len k i : ℕ) → ((j : ℕ) → get_or bytes j 0 < 2 ^ 8) → len ≤ 8 * length bytes → i < 64
    → eqb (bit_at (little_number (min 8 (length bytes - 8 * k)) (drop (8 * k) bytes) % 2 ^ min 64 (len - 64 * k)) i) 1
    ≡ get_or (unpacked 8 bytes len) (64 * k + i) false
word_bit bytes len k i fit enough h =
    let word = little_number (min 8 (length bytes - 8 * k)) (drop (8 * k) bytes) in
    elim (cases_lt i (min 64 (len - 64 * k))) [
      | inl low ↦
          let within : 64 * k + i < len = omega arith in
          let there : i < 8 * min 8 (length bytes - 8 * k) = omega arith in
          let number : 8 * k + (0 + i / 8) ≡ (64 * k + i) / 8 = omega arith in
          let place : i % 8 ≡ (64 * k + i) % 8 = omega arith in
          ap (λ (x : ℕ). eqb x 1)
          (bit_at-low word (min 64 (len - 64 * k)) i low
          ∙ little_bit (drop (8 * k) bytes) (λ j. rw (get_or-drop (8 * k) bytes j 0) (fit (8 * k + j))) (min 8 (length bytes - 8 * k)) 0 i there
          ∙ ap (λ (x : ℕ). bit_at x (i % 8)) (get_or-drop (8 * k) bytes (0 + i / 8) 0)
          ∙ ap (λ (x : ℕ). bit_at (get_or bytes x 0) (i % 8)) number
          ∙ ap (λ (x : ℕ). bit_at (get_or bytes ((64 * k + i) / 8) 0) x) place)
          ∙ sym (get_or-unpacked 8 bytes len (64 * k + i) false within)
      | inr high ↦
          ap (λ (x : ℕ). eqb x 1) (bit_at_above (word % 2 ^ min 64 (len - 64 * k)) (min 64 (len - 64 * k)) i (mod-lt word (pow_pos (min 64 (len - 64 * k)))) high)
          ∙ sym (get_or_past (unpacked 8 bytes len) (64 * k + i) false (omega (arith, length-unpacked 8 bytes len)))
    ]

packed_word_bit : (bits : List Bool) (k i : ℕ) → i < 64 → eqb (bit_at (get_or (packed 64 bits) k 0) i) 1 ≡ get_or bits (64 * k + i) false
packed_word_bit bits k i h =
    let number : (64 * k + i) / 64 ≡ k = omega arith in
    let place : (64 * k + i) % 64 ≡ i = omega arith in
    ap (λ (x : ℕ). eqb (bit_at (get_or (packed 64 bits) x 0) i) 1) (sym number)
    ∙ ap (λ (x : ℕ). eqb (bit_at (get_or (packed 64 bits) ((64 * k + i) / 64) 0) x) 1) (sym place)
    ∙ packed_bit-packed 64 bits (64 * k + i) (lit< tt)

pub word_is : (bytes : List ℕ) (len k : ℕ) → ((j : ℕ) → get_or bytes j 0 < 2 ^ 8) → len ≤ 8 * length bytes
    → little_number (min 8 (length bytes - 8 * k)) (drop (8 * k) bytes) % 2 ^ min 64 (len - 64 * k) ≡ get_or (packed 64 (unpacked 8 bytes len)) k 0
word_is bytes len k fit enough =
    let word = little_number (min 8 (length bytes - 8 * k)) (drop (8 * k) bytes) in
    let kept : min 64 (len - 64 * k) ≤ 64 = omega arith in
    same_from_bits_below 64 (word % 2 ^ min 64 (len - 64 * k)) (get_or (packed 64 (unpacked 8 bytes len)) k 0)
    (lt_of_lt_of_le (mod-lt word (pow_pos (min 64 (len - 64 * k)))) (pow-le-pow_right two_pos kept))
    (packed-lt 64 (unpacked 8 bytes len) k (lit< tt))
    (λ i h. same_bit (bit_at-lt (word % 2 ^ min 64 (len - 64 * k)) i) (bit_at-lt (get_or (packed 64 (unpacked 8 bytes len)) k 0) i)
    (word_bit bytes len k i fit enough h ∙ sym (packed_word_bit (unpacked 8 bytes len) k i h)))

-- a byte of the bits stands in one of their words
pub byte_place-lt : (bits : List Bool) (ns : List ℕ) (k n : ℕ) → ns ≡ packed 64 bits → length bits ≡ n → k < div_ceil n 8 → k / 8 < length ns
byte_place-lt bits ns k n held long below =
    let first = first_bit-lt 8 n k (lit< tt) below in
    omega (arith, bit_number-lt 64 n (8 * k) (lit< tt) first, length-packed 64 bits, ap length held, ap (λ (x : ℕ). div_ceil x 64) long)
