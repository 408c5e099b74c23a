-- Numbers and their bits.
use Rattle.std.proofs.Common.{◌≡◌, ℕ, ◌+◌, ◌-◌, ◌*◌, ◌/◌, ◌%◌, ◌^◌, ◌<◌, ◌≤◌, Bool, true, false, cond, eqb, ◌||◌, List, [], ◌∷◌, ◌++◌, length, get_or, take, drop, min, refl, sym, ap, ◌∙◌, arith, inl, inr, lit<}
use Rattle.std.proofs.Math.Nat.{mod-lt, lt_of_lt_of_le, pow-le-pow_right}
use mir.Val.{bool_byte}
use Rattle.std.specs.Int.{bit_at, div_ceil}
use Rattle.std.specs.Simd.Lanes.{mask_l}
use Rattle.std.proofs.lemmas.Simd.{bit_mask_l, mask_l-lt}
use Rattle.std.proofs.lemmas.Nat.{pow_pos}
use Rattle.std.proofs.lemmas.Nat.Bits.{bit_at-lt, bit_at_above, bit_at_cat_low, bit_at_cat_high, same_from_bits, same_from_bits_below}
use Rattle.std.proofs.lemmas.List.{same_lists, length-append, get_or_append_left, get_or-append-add, get_or_past, get_or-take, get_or-drop, get_or_default, length-take}
use Rattle.std.proofs.lemmas.List.FromFn.{length-map-range_with_len, get_or-map-range_with_len}
use Rattle.std.proofs.lemmas.Bool.{cases_lt}
use Rattle.bit_model.specs.Packed.{packed, packed_bit}
use Rattle.bit_model.specs.Numbers.{bits_of, number_at}
use Rattle.bit_words.proofs.Packing.{eqb_cond, same_bit, two_pos, packed_bit-packed, packed_is}
use Rattle.bit_words.proofs.Bytes.{bit_at-low}

pub length-bits_of : (count n : ℕ) → length (bits_of count n) ≡ count
unfolding bits_of
length-bits_of count n = length-map-range_with_len (λ i. eqb (bit_at n i) 1) 0 count

pub get_or-bits_of : (count n i : ℕ) (d : Bool) → i < count → get_or (bits_of count n) i d ≡ eqb (bit_at n i) 1
unfolding bits_of
get_or-bits_of count n i d h = get_or-map-range_with_len (λ j. eqb (bit_at n j) 1) 0 count i i d h (omega arith)

pub bits_of-nothing : (n : ℕ) → bits_of 0 n ≡ []
unfolding bits_of
bits_of-nothing n = refl

pub bits_of-bit : (bit : Bool) → bits_of 1 (bool_byte bit) ≡ bit ∷ []
unfolding bits_of
bits_of-bit true = refl
bits_of-bit false = refl

-- a bit of the number that bits spell
pub spelt_bit : (bits : List Bool) (i : ℕ) → eqb (bit_at (mask_l bits) i) 1 ≡ get_or bits i false
spelt_bit bits i = ap (λ (n : ℕ). eqb n 1) (bit_mask_l bits i) ∙ eqb_cond (get_or bits i false)

-- ---- laws

pub number_back : (count n : ℕ) → mask_l (bits_of count n) ≡ n % 2 ^ count
number_back count n =
    same_from_bits (mask_l (bits_of count n)) (n % 2 ^ count)
    (λ i. elim (cases_lt i count) [
      | inl within ↦
          same_bit (bit_at-lt (mask_l (bits_of count n)) i) (bit_at-lt (n % 2 ^ count) i)
          (spelt_bit (bits_of count n) i ∙ get_or-bits_of count n i false within ∙ ap (λ (x : ℕ). eqb x 1) (sym (bit_at-low n count i within)))
      | inr past ↦
          bit_mask_l (bits_of count n) i ∙ ap (λ (b : Bool). cond b 1 0) (get_or_past (bits_of count n) i false (omega (arith, length-bits_of count n)))
          ∙ sym (bit_at_above (n % 2 ^ count) count i (mod-lt n (pow_pos count)) past)
    ])

pub bits_back : (bits : List Bool) → bits_of (length bits) (mask_l bits) ≡ bits
bits_back bits =
    same_lists (bits_of (length bits) (mask_l bits)) bits (length-bits_of (length bits) (mask_l bits))
    (λ k d below.
    let within : k < length bits = omega (arith, length-bits_of (length bits) (mask_l bits)) in
    get_or-bits_of (length bits) (mask_l bits) k d within ∙ spelt_bit bits k ∙ get_or_default bits k false d within)

joined_bit : (a b x y i : ℕ) (d : Bool) → x < 2 ^ a → i < a + b → get_or (bits_of a x ++ bits_of b y) i d ≡ eqb (bit_at (x + 2 ^ a * y) i) 1
joined_bit a b x y i d fits below =
    let swap : y * 2 ^ a + x ≡ x + 2 ^ a * y = omega arith in
    elim (cases_lt i a) [
      | inl low ↦
          get_or_append_left (bits_of a x) (bits_of b y) d i (omega (arith, length-bits_of a x)) ∙ get_or-bits_of a x i d low
          ∙ ap (λ (n : ℕ). eqb n 1) (sym (bit_at_cat_low y a x i low)) ∙ ap (λ (n : ℕ). eqb (bit_at n i) 1) swap
      | inr high ↦
          let place : i ≡ length (bits_of a x) + (i - a) = omega (arith, length-bits_of a x) in
          ap (λ (n : ℕ). get_or (bits_of a x ++ bits_of b y) n d) place ∙ get_or-append-add (bits_of a x) (bits_of b y) (i - a) d
          ∙ get_or-bits_of b y (i - a) d (omega arith)
          ∙ ap (λ (n : ℕ). eqb n 1) (sym (bit_at_cat_high y a x i fits high)) ∙ ap (λ (n : ℕ). eqb (bit_at n i) 1) swap
    ]

pub numbers_join : (a b x y : ℕ) → x < 2 ^ a → bits_of a x ++ bits_of b y ≡ bits_of (a + b) (x + 2 ^ a * y)
numbers_join a b x y fits =
    let long : length (bits_of a x ++ bits_of b y) ≡ a + b = omega (arith, length-append (bits_of a x) (bits_of b y), length-bits_of a x, length-bits_of b y) in
    same_lists (bits_of a x ++ bits_of b y) (bits_of (a + b) (x + 2 ^ a * y)) (long ∙ sym (length-bits_of (a + b) (x + 2 ^ a * y)))
    (λ k d below.
    let within : k < a + b = omega (arith, long) in
    joined_bit a b x y k d fits within ∙ sym (get_or-bits_of (a + b) (x + 2 ^ a * y) k d within))

-- ---- a number read

pub number_is : (bits : List Bool) (ws : List ℕ) (i count n : ℕ) → ws ≡ packed 64 bits → i + count ≤ length bits
    → ((j : ℕ) → j < count → bit_at n j ≡ bit_at (get_or ws ((i + j) / 64) 0) ((i + j) % 64))
    → n % 2 ^ count ≡ number_at bits i count
number_is bits ws i count n held there read =
    let part = take count (drop i bits) in
    let short : length part ≤ count = omega (arith, length-take count (drop i bits)) in
    same_from_bits_below count (n % 2 ^ count) (mask_l part) (mod-lt n (pow_pos count)) (lt_of_lt_of_le (mask_l-lt part) (pow-le-pow_right two_pos short))
    (λ j within. same_bit (bit_at-lt (n % 2 ^ count) j) (bit_at-lt (mask_l part) j)
    (ap (λ (x : ℕ). eqb x 1) (bit_at-low n count j within ∙ read j within) ∙ ap (λ (ns : List ℕ). packed_bit 64 ns (i + j)) held
    ∙ packed_bit-packed 64 bits (i + j) (lit< tt) ∙ sym (get_or-drop i bits j false) ∙ sym (get_or-take count (drop i bits) j false within)
    ∙ sym (spelt_bit part j)))

-- ---- a number added

-- the words after a number was set from the end of the bits on
pub record Added (bits : List Bool) (old new : List ℕ) (len n count : ℕ) : Type 0 where
  pub long : length new ≡ div_ceil (len + count) 64
  pub fit : (k : ℕ) → get_or new k 0 < 2 ^ 64
  pub before : (j : ℕ) → j < len → packed_bit 64 new j ≡ packed_bit 64 old j
  pub set_at : (j : ℕ) → packed_bit 64 new (len + j) ≡ packed_bit 64 old (len + j) || eqb (bit_at (n % 2 ^ min 64 count) j) 1

bit_past : (bits : List Bool) (n count j : ℕ) → count ≤ 64 → eqb (bit_at (n % 2 ^ min 64 count) j) 1 ≡ get_or (bits_of count n) j false
bit_past bits n count j h =
    let less : min 64 count ≡ count = omega arith in
    ap (λ (m : ℕ). eqb (bit_at (n % 2 ^ m) j) 1) less
    ∙ elim (cases_lt j count) [
      | inl within ↦ ap (λ (x : ℕ). eqb x 1) (bit_at-low n count j within) ∙ sym (get_or-bits_of count n j false within)
      | inr past ↦
          ap (λ (x : ℕ). eqb x 1) (bit_at_above (n % 2 ^ count) count j (mod-lt n (pow_pos count)) past)
          ∙ sym (get_or_past (bits_of count n) j false (omega (arith, length-bits_of count n)))
    ]

pub number_added : (bits : List Bool) (old new : List ℕ) (len n count : ℕ) → length bits ≡ len → count ≤ 64
    → ((k : ℕ) → get_or old k 0 ≡ get_or (packed 64 bits) k 0) → Added bits old new len n count → new ≡ packed 64 (bits ++ bits_of count n)
number_added bits old new len n count is width held added =
    let whole = bits ++ bits_of count n in
    let total : length whole ≡ len + count = omega (arith, length-append bits (bits_of count n), length-bits_of count n) in
    let kept : (i : ℕ) → packed_bit 64 old i ≡ get_or bits i false =
    λ i. ap (λ (x : ℕ). eqb (bit_at x (i % 64)) 1) (held (i / 64)) ∙ packed_bit-packed 64 bits i (lit< tt) in
    packed_is 64 whole new (lit< tt) (added.long ∙ ap (λ (m : ℕ). div_ceil m 64) (sym total)) added.fit
    (λ i. elim (cases_lt i len) [
      | inl within ↦ added.before i within ∙ kept i ∙ sym (get_or_append_left bits (bits_of count n) false i (omega arith))
      | inr past ↦
          let place : i ≡ len + (i - len) = omega arith in
          let there : length bits + (i - len) ≡ i = omega arith in
          ap (packed_bit 64 new) place ∙ added.set_at (i - len)
          ∙ ap (λ (b : Bool). b || eqb (bit_at (n % 2 ^ min 64 count) (i - len)) 1) (kept (len + (i - len)) ∙ get_or_past bits (len + (i - len)) false (omega arith))
          ∙ bit_past bits n count (i - len) width ∙ sym (get_or-append-add bits (bits_of count n) (i - len) false)
          ∙ ap (λ (m : ℕ). get_or whole m false) there
    ])
