-- The set bits of a packing.
use Rattle.std.proofs.Common.{◌≡◌, ℕ, ◌+◌, ◌-◌, ◌*◌, ◌/◌, ◌%◌, ◌^◌, ◌<◌, ◌≤◌, Bool, false, cond, List, length, get_or, take, drop, slice_range, sym, ap, ◌∙◌, arith, inl, inr, zero, suc, add-one, lit<}
use Rattle.std.proofs.Math.Nat.{mod-lt, le_refl}
use Rattle.std.proofs.Math.Seq.{take-add}
use Rattle.std.specs.Int.{bit_at, div_ceil}
use Rattle.std.specs.Int.RustNames.{count_ones}
use Rattle.std.specs.List.{sum_by, count_by}
use Rattle.std.specs.Simd.Lanes.{mask_l}
use Rattle.std.proofs.lemmas.Nat.{shr_split, pow_pos}
use Rattle.std.proofs.lemmas.Nat.Bits.{bit_at_cat_low, bit_at_above, same_from_bits}
use Rattle.std.proofs.lemmas.Simd.{ones-mask_l, bit_mask_l}
use Rattle.std.proofs.lemmas.List.{map-id, take_all, get_or-take, get_or_past, length-take, take-take}
use Rattle.std.proofs.lemmas.List.Sums.{sum_by_more, sum_by-append, count_by-le-length}
use Rattle.std.proofs.lemmas.Bool.{cases_lt}
use Rattle.bit_words.specs.Counts.{rank_of}
use Rattle.bit_model.specs.Packed.{packed}
use Rattle.bit_words.proofs.Packing.{get_or-packed, length-packed, past_bits}

-- the set bits of the number that bits spell
pub ones-number : (bits : List Bool) → count_ones (mask_l bits) ≡ count_by (λ bit. bit) bits
ones-number bits = ap (λ (bs : List Bool). count_ones (mask_l bs)) (sym (map-id bits)) ∙ ones-mask_l (λ bit. bit) bits

pub ones-take_packed : (w : ℕ) (bits : List Bool) (k : ℕ) → 0 < w
    → sum_by count_ones (take k (packed w bits)) ≡ count_by (λ bit. bit) (take (w * k) bits)
ones-take_packed w bits zero h =
    let none : 0 ≡ w * 0 = omega arith in
    ap (λ (n : ℕ). count_by (λ (bit : Bool). bit) (take n bits)) none
ones-take_packed w bits (suc k) h =
    elim (cases_lt k (length (packed w bits))) [
      | inl below ↦
          let next : w * k + w ≡ w * suc k = omega arith in
          let number : count_ones (get_or (packed w bits) k 0) ≡ count_by (λ (bit : Bool). bit) (take w (drop (w * k) bits)) =
          ap count_ones (get_or-packed w bits k h) ∙ ones-number (take w (drop (w * k) bits)) in
          ap (λ (n : ℕ). sum_by count_ones (take n (packed w bits))) (sym (add-one k))
          ∙ sum_by_more count_ones (packed w bits) k 0 below
          ∙ ap (λ (n : ℕ). n + count_ones (get_or (packed w bits) k 0)) (ones-take_packed w bits k h)
          ∙ ap (λ (n : ℕ). count_by (λ (bit : Bool). bit) (take (w * k) bits) + n) number
          ∙ sym (sum_by-append (λ (bit : Bool). cond bit 1 0) (take (w * k) bits) (take w (drop (w * k) bits)))
          ∙ ap (λ (bs : List Bool). count_by (λ (bit : Bool). bit) bs) (sym (take-add (w * k) w bits))
          ∙ ap (λ (n : ℕ). count_by (λ (bit : Bool). bit) (take n bits)) next
      | inr past ↦
          let over : length bits ≤ w * k = past_bits w (length bits) k h (omega (arith, length-packed w bits)) in
          let more : length bits ≤ w * suc k = omega arith in
          ap (λ (ns : List ℕ). sum_by count_ones ns) (take_all (suc k) (packed w bits) (omega arith) ∙ sym (take_all k (packed w bits) past))
          ∙ ones-take_packed w bits k h
          ∙ ap (λ (bs : List Bool). count_by (λ (bit : Bool). bit) bs) (take_all (w * k) bits over ∙ sym (take_all (w * suc k) bits more))
    ]

-- ---- ranks by words

pub rank-le : (bits : List Bool) (i : ℕ) → rank_of bits i ≤ i
rank-le bits i = omega (arith, count_by-le-length (λ (bit : Bool). bit) (take i bits), length-take i bits)

pub rank-add : (bits : List Bool) (i n : ℕ) → rank_of bits (i + n) ≡ rank_of bits i + rank_of (drop i bits) n
rank-add bits i n =
    ap (count_by (λ (bit : Bool). bit)) (take-add i n bits)
    ∙ sum_by-append (λ (bit : Bool). cond bit 1 0) (take i bits) (take n (drop i bits))

-- the set bits of the words from place a to place b
pub ones_range : (words : List ℕ) (a b : ℕ) → a ≤ b
    → sum_by count_ones (take a words) + sum_by count_ones (slice_range words a b) ≡ sum_by count_ones (take b words)
ones_range words a b h =
    let whole : a + (b - a) ≡ b = omega arith in
    sym (sum_by-append count_ones (take a words) (take (b - a) (drop a words))) ∙ ap (sum_by count_ones) (sym (take-add a (b - a) words))
    ∙ ap (λ (n : ℕ). sum_by count_ones (take n words)) whole

-- the lowest p bits of the number that bits spell are the first p of them
low_number : (bits : List Bool) (p : ℕ) → mask_l bits % 2 ^ p ≡ mask_l (take p bits)
low_number bits p =
    same_from_bits (mask_l bits % 2 ^ p) (mask_l (take p bits))
    (λ i. elim (cases_lt i p) [
      | inl low ↦
          sym (bit_at_cat_low (mask_l bits / 2 ^ p) p (mask_l bits % 2 ^ p) i low) ∙ ap (λ (x : ℕ). bit_at x i) (shr_split (mask_l bits) p)
          ∙ bit_mask_l bits i ∙ ap (λ (b : Bool). cond b 1 0) (sym (get_or-take p bits i false low)) ∙ sym (bit_mask_l (take p bits) i)
      | inr high ↦
          bit_at_above (mask_l bits % 2 ^ p) p i (mod-lt (mask_l bits) (pow_pos p)) high
          ∙ ap (λ (b : Bool). cond b 1 0) (sym (get_or_past (take p bits) i false (omega (arith, length-take p bits)))) ∙ sym (bit_mask_l (take p bits) i)
    ])

-- the set bits of a word below one of its places
pub ones_in_word : (bits : List Bool) (words : List ℕ) (k p : ℕ) → words ≡ packed 64 bits → p ≤ 64
    → count_ones (get_or words k 0 % 2 ^ p) ≡ rank_of (drop (64 * k) bits) p
ones_in_word bits words k p held h =
    ap (λ (ns : List ℕ). count_ones (get_or ns k 0 % 2 ^ p)) held
    ∙ ap (λ (n : ℕ). count_ones (n % 2 ^ p)) (get_or-packed 64 bits k (lit< tt))
    ∙ ap count_ones (low_number (take 64 (drop (64 * k) bits)) p ∙ ap mask_l (take-take p 64 (drop (64 * k) bits) h))
    ∙ ones-number (take p (drop (64 * k) bits))

pub ones_in_words : (bits : List Bool) (words : List ℕ) (k : ℕ) → words ≡ packed 64 bits → sum_by count_ones (take k words) ≡ rank_of bits (64 * k)
ones_in_words bits words k held = ap (λ (ns : List ℕ). sum_by count_ones (take k ns)) held ∙ ones-take_packed 64 bits k (lit< tt)

-- each place of the bits has its word, or stands behind the last
pub words_cover : (bits : List Bool) (words : List ℕ) (i : ℕ) → words ≡ packed 64 bits → i ≤ length bits → i ≤ 64 * length words
words_cover bits words i held within =
    omega (arith, past_bits 64 (length bits) (div_ceil (length bits) 64) (lit< tt) (le_refl (div_ceil (length bits) 64)), ap length held, length-packed 64 bits)

pub rank-le-length : (bits : List Bool) (i : ℕ) → rank_of bits i ≤ length bits
rank-le-length bits i = omega (arith, count_by-le-length (λ (bit : Bool). bit) (take i bits), length-take i bits)
