-- What stands where in a packing, and that it is the only one.
use Rattle.std.proofs.Common.{◌≡◌, ℕ, ◌+◌, ◌*◌, ◌/◌, ◌%◌, ◌^◌, ◌<◌, ◌≤◌, Bool, true, false, cond, eqb, List, length, get_or, take, drop, [], zero, suc, refl, sym, ap, ◌∙◌, arith, min, inl, inr, lit<}
use Rattle.std.proofs.Math.Nat.{mul-le-mul_left, mod-lt, div-lt_iff_lt-mul, lt_of_lt_of_le, pow-le-pow_right}
use Rattle.std.specs.Int.{bit_at, div_ceil}
use Rattle.std.specs.Simd.Lanes.{mask_l}
use Rattle.std.proofs.lemmas.Simd.{bit_mask_l, mask_l-lt}
use Rattle.std.proofs.lemmas.Nat.{div-add-mod', div-mul-add, mod-mul-add}
use Rattle.std.proofs.lemmas.Nat.Bits.{bit_at-lt, same_from_bits_below}
use Rattle.std.proofs.lemmas.List.{same_lists, get_or_past, get_or-take, get_or-drop, get_or_default, length-take, drop_all}
use Rattle.std.proofs.lemmas.List.FromFn.{length-map-range_with_len, get_or-map-range_with_len}
use Rattle.std.proofs.lemmas.Bool.{cases_lt}
use Rattle.std.proofs.lemmas.Bool.Decides.{nat_tests}
use Rattle.bit_model.specs.Packed.{packed, unpacked, packed_bit}

-- ---- places and numbers

-- a quotient rounded up covers the number
covers : (q r w : ℕ) → r < w → q * w + r ≤ (q + min 1 r) * w
covers q zero w h = omega arith
covers q (suc r) w h = let e : q + min 1 (suc r) ≡ q + 1 = omega arith in rw e (omega arith)

first_of_below : (q r w k n : ℕ) → 0 < w → k < q + min 1 r → n ≡ q * w + r → w * k < n
first_of_below q r w k n h below is =
    elim (cases_lt k q) [
      | inl less ↦ omega (arith, mul-le-mul_left w less)
      | inr more ↦ let same : k ≡ q = omega arith in omega (arith, ap (λ (x : ℕ). w * x) same)
    ]

pub past_bits : (w n k : ℕ) → 0 < w → div_ceil n w ≤ k → n ≤ w * k
past_bits w n k h past =
    omega (arith, covers (n / w) (n % w) w (mod-lt n h), div-add-mod' n w, mul-le-mul_left w past)

pub bit_number-lt : (w n i : ℕ) → 0 < w → i < n → i / w < div_ceil n w
bit_number-lt w n i h below =
    (div-lt_iff_lt-mul h).1 (omega (arith, covers (n / w) (n % w) w (mod-lt n h), div-add-mod' n w))

pub first_bit-lt : (w n k : ℕ) → 0 < w → k < div_ceil n w → w * k < n
first_bit-lt w n k h below =
    first_of_below (n / w) (n % w) w k n h below (sym (div-add-mod' n w))

pub length-packed : (w : ℕ) (bits : List Bool) → length (packed w bits) ≡ div_ceil (length bits) w
unfolding packed
length-packed w bits = length-map-range_with_len (λ k. mask_l (take w (drop (w * k) bits))) 0 (div_ceil (length bits) w)

pub length-unpacked : (w : ℕ) (ns : List ℕ) (count : ℕ) → length (unpacked w ns count) ≡ count
unfolding unpacked
length-unpacked w ns count = length-map-range_with_len (packed_bit w ns) 0 count

pub get_or-unpacked : (w : ℕ) (ns : List ℕ) (count i : ℕ) (d : Bool) → i < count → get_or (unpacked w ns count) i d ≡ packed_bit w ns i
unfolding unpacked
get_or-unpacked w ns count i d h = get_or-map-range_with_len (packed_bit w ns) 0 count i i d h (omega arith)

pub take-nil : (w : ℕ) → take {A = Bool} w [] ≡ []
take-nil zero = refl
take-nil (suc w) = refl

pub get_or-packed : (w : ℕ) (bits : List Bool) (k : ℕ) → 0 < w → get_or (packed w bits) k 0 ≡ mask_l (take w (drop (w * k) bits))
unfolding packed
get_or-packed w bits k h =
    elim (cases_lt k (div_ceil (length bits) w)) [
      | inl below ↦ get_or-map-range_with_len (λ j. mask_l (take w (drop (w * j) bits))) 0 (div_ceil (length bits) w) k k 0 below (omega arith)
      | inr past ↦
          let front : length bits ≤ w * k = past_bits w (length bits) k h past in
          get_or_past (packed w bits) k 0 (omega (arith, length-packed w bits)) ∙ sym (ap (λ (bs : List Bool). mask_l (take w bs)) (drop_all (w * k) bits front) ∙ ap mask_l (take-nil w))
    ]

pub eqb_cond : (b : Bool) → eqb (cond b 1 0) 1 ≡ b
eqb_cond true = refl
eqb_cond false = refl

pub packed_bit-packed : (w : ℕ) (bits : List Bool) (i : ℕ) → 0 < w → packed_bit w (packed w bits) i ≡ get_or bits i false
packed_bit-packed w bits i h =
    let part = get_or-packed w bits (i / w) h in
    let within : i % w < w = mod-lt i h in
    ap (λ (n : ℕ). eqb (n / 2 ^ (i % w) % 2) 1) part
    ∙ ap (λ (n : ℕ). eqb n 1) (bit_mask_l (take w (drop (w * (i / w)) bits)) (i % w))
    ∙ eqb_cond (get_or (take w (drop (w * (i / w)) bits)) (i % w) false)
    ∙ get_or-take w (drop (w * (i / w)) bits) (i % w) false within
    ∙ get_or-drop (w * (i / w)) bits (i % w) false
    ∙ ap (λ (j : ℕ). get_or bits j false) (omega (arith, div-add-mod' i w))

pub unpacked-packed : (w : ℕ) (bits : List Bool) → 0 < w → unpacked w (packed w bits) (length bits) ≡ bits
unpacked-packed w bits h =
    same_lists (unpacked w (packed w bits) (length bits)) bits (length-unpacked w (packed w bits) (length bits))
    (λ k d below.
    let within : k < length bits = omega (arith, length-unpacked w (packed w bits) (length bits)) in
    get_or-unpacked w (packed w bits) (length bits) k d within ∙ packed_bit-packed w bits k h ∙ get_or_default bits k false d within)

pub two_pos : 0 < 2
two_pos = lit< tt

pub packed-lt : (w : ℕ) (bits : List Bool) (k : ℕ) → 0 < w → get_or (packed w bits) k 0 < 2 ^ w
packed-lt w bits k h =
    let part = take w (drop (w * k) bits) in
    let short : length part ≤ w = omega (arith, length-take w (drop (w * k) bits)) in
    rw (get_or-packed w bits k h) (lt_of_lt_of_le (mask_l-lt part) (pow-le-pow_right two_pos short))

pub same_bit : {m n : ℕ} → m < 2 → n < 2 → eqb m 1 ≡ eqb n 1 → m ≡ n
same_bit {m} {n} h k e = grind (arith, nat_tests)

bit_here : (w : ℕ) (ns : List ℕ) (k i : ℕ) → i < w → (b : Bool) → packed_bit w ns (k * w + i) ≡ b → eqb (bit_at (get_or ns k 0) i) 1 ≡ b
bit_here w ns k i h b e = rw (div-mul-add k w i h, mod-mul-add k w i h) at e

pub packed_is : (w : ℕ) (bits : List Bool) (ns : List ℕ) → 0 < w → length ns ≡ div_ceil (length bits) w
    → ((k : ℕ) → get_or ns k 0 < 2 ^ w) → ((i : ℕ) → packed_bit w ns i ≡ get_or bits i false) → ns ≡ packed w bits
packed_is w bits ns h long fit same =
    same_lists ns (packed w bits) (long ∙ sym (length-packed w bits))
    (λ k d below.
    get_or_default ns k d 0 below
    ∙ same_from_bits_below w (get_or ns k 0) (get_or (packed w bits) k 0) (fit k) (packed-lt w bits k h)
    (λ i within. same_bit (bit_at-lt (get_or ns k 0) i) (bit_at-lt (get_or (packed w bits) k 0) i)
    (bit_here w ns k i within (get_or bits (k * w + i) false) (same (k * w + i)) ∙ sym (bit_here w (packed w bits) k i within (get_or bits (k * w + i) false) (packed_bit-packed w bits (k * w + i) h))))
    ∙ get_or_default (packed w bits) k 0 d (omega (arith, length-packed w bits)))

-- ---- words of 64

pub word_place-lt : (bits : List Bool) (ns : List ℕ) (i : ℕ) → ns ≡ packed 64 bits → i < length bits → i / 64 < length ns
word_place-lt bits ns i held below =
    omega (arith, bit_number-lt 64 (length bits) i (lit< tt) below, length-packed 64 bits, ap length held)

pub reads_packed : (w : ℕ) (bits : List Bool) (ns : List ℕ) (n : ℕ) → 0 < w → ns ≡ packed w bits → length bits ≡ n → unpacked w ns n ≡ bits
reads_packed w bits ns n h held long =
    ap (λ (xs : List ℕ). unpacked w xs n) held ∙ ap (λ (m : ℕ). unpacked w (packed w bits) m) (sym long)
    ∙ unpacked-packed w bits h

pub stays_packed : (w : ℕ) (bits : List Bool) (ns : List ℕ) (n : ℕ) → 0 < w → ns ≡ packed w bits → length bits ≡ n → ns ≡ packed w (unpacked w ns n)
stays_packed w bits ns n h held long = held ∙ ap (packed w) (sym (reads_packed w bits ns n h held long))
