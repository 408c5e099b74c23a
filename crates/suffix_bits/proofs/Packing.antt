-- Suffixes and their bits.
use Rattle.std.proofs.Common.{◌≡◌, ℕ, ◌+◌, ◌*◌, ◌/◌, ◌%◌, ◌^◌, ◌<◌, ◌≤◌, Bool, List, [], ◌∷◌, ◌++◌, zero, suc, add-one, length, get_or, take, drop, flat_map, refl, sym, ap, ap₂, ◌∙◌, arith, lit<}
use Rattle.std.proofs.Math.Nat.{mod-lt, mod-eq_of_lt, mul-le-mul_left, lt_of_lt_of_le, pow-le-pow_right}
use Rattle.std.proofs.Math.Seq.{take-add}
use Rattle.std.specs.List.{All}
use Rattle.std.specs.Simd.Lanes.{mask_l}
use Rattle.std.proofs.lemmas.Nat.{pow-add, pow_pos, shr_split, shr_below, shr_high, mod_low}
use Rattle.std.proofs.lemmas.Simd.{mask_l-lt}
use Rattle.std.proofs.lemmas.Grind.{flat_map-append}
use Rattle.std.proofs.lemmas.List.{append-nil, length-append, length-take, length-drop, take_all, take_more, take-append-le, drop-append-le, drop_all, same_lists}
use Rattle.std.proofs.lemmas.List.FromFn.{length-map-range_with_len, get_or-map-range_with_len, map-range_with_len_more}
use Rattle.bit_model.specs.Numbers.{bits_of, number_at}
use Rattle.bit_words.proofs.Numbers.{length-bits_of, number_back, bits_back}
use Rattle.suffix_bits.specs.Slots.{Suffix, IsOfWidths, suffix_number, suffix_in, packed_suffixes, unpacked_suffixes}

-- ---- the number of a suffix

pub suffix_number-lt : (h r : ℕ) (s : Suffix) → IsOfWidths h r s → suffix_number h s < 2 ^ (h + r)
suffix_number-lt h r s fits =
    let more : 2 ^ h * suc s.1 ≤ 2 ^ h * 2 ^ r = mul-le-mul_left (2 ^ h) fits.1 in
    omega (arith, more, fits.0, pow-add 2 h r)

pub suffix_in-number : (h r : ℕ) (s : Suffix) → IsOfWidths h r s → suffix_in h (suffix_number h s) ≡ s
suffix_in-number h r s fits =
    let swap : suffix_number h s ≡ s.1 * 2 ^ h + s.0 = omega arith in
    ap (suffix_in h) swap ∙ ap₂ (λ (x y : ℕ). (x, y)) (mod_low s.1 h s.0 fits.0) (shr_high s.1 h s.0 fits.0)

pub suffix_number-in : (h n : ℕ) → suffix_number h (suffix_in h n) ≡ n
suffix_number-in h n =
    let swap : n % 2 ^ h + 2 ^ h * (n / 2 ^ h) ≡ n / 2 ^ h * 2 ^ h + n % 2 ^ h = omega arith in
    swap ∙ shr_split n h

pub suffix_in-fits : (h r n : ℕ) → n < 2 ^ (h + r) → IsOfWidths h r (suffix_in h n)
suffix_in-fits h r n below =
    let swap : 2 ^ (h + r) ≡ 2 ^ (r + h) = ap (λ (k : ℕ). 2 ^ k) (omega arith) in
    (mod-lt n (pow_pos h), shr_below n r h (rw swap at below))

-- ---- unpacked bits

pub length-unpacked : (h r : ℕ) (bits : List Bool) (n : ℕ) → length (unpacked_suffixes h r bits n) ≡ n
unfolding unpacked_suffixes
length-unpacked h r bits n = length-map-range_with_len (λ slot. suffix_in h (number_at bits ((h + r) * slot) (h + r))) 0 n

pub get_or-unpacked : (h r : ℕ) (bits : List Bool) (n i : ℕ) (d : Suffix) → i < n
    → get_or (unpacked_suffixes h r bits n) i d ≡ suffix_in h (number_at bits ((h + r) * i) (h + r))
unfolding unpacked_suffixes
get_or-unpacked h r bits n i d below = get_or-map-range_with_len (λ slot. suffix_in h (number_at bits ((h + r) * slot) (h + r))) 0 n i i d below (omega arith)

unpacked_more : (h r : ℕ) (bits : List Bool) (n : ℕ)
    → unpacked_suffixes h r bits (n + 1) ≡ unpacked_suffixes h r bits n ++ suffix_in h (number_at bits ((h + r) * n) (h + r)) ∷ []
unfolding unpacked_suffixes
unpacked_more h r bits n = map-range_with_len_more (λ slot. suffix_in h (number_at bits ((h + r) * slot) (h + r))) 0 n n (omega arith)

pub unpacked-nothing : (h r : ℕ) (bits : List Bool) → unpacked_suffixes h r bits 0 ≡ []
unfolding unpacked_suffixes
unpacked-nothing h r bits = refl

-- the suffix that the bits at a slot spell
pub number_at-lt : (bits : List Bool) (i w : ℕ) → number_at bits i w < 2 ^ w
number_at-lt bits i w =
    let short : length (take w (drop i bits)) ≤ w = omega (arith, length-take w (drop i bits)) in
    lt_of_lt_of_le (mask_l-lt (take w (drop i bits))) (pow-le-pow_right (lit< tt) short)

-- ---- packed suffixes

packed-push : (h r : ℕ) (xs : List Suffix) (s : Suffix)
    → packed_suffixes h r (xs ++ s ∷ []) ≡ packed_suffixes h r xs ++ bits_of (h + r) (suffix_number h s)
unfolding packed_suffixes
packed-push h r xs s =
    flat_map-append (λ (x : Suffix). bits_of (h + r) (suffix_number h x)) xs (s ∷ [])
    ∙ ap (λ (bs : List Bool). flat_map (λ (x : Suffix). bits_of (h + r) (suffix_number h x)) xs ++ bs) (append-nil (bits_of (h + r) (suffix_number h s)))

packed-nothing : (h r : ℕ) → packed_suffixes h r [] ≡ []
unfolding packed_suffixes
packed-nothing h r = refl

-- the bits of a slot
slot_bits : (bits : List Bool) (i w : ℕ) → i + w ≤ length bits → bits_of w (number_at bits i w) ≡ take w (drop i bits)
slot_bits bits i w there =
    let part = take w (drop i bits) in
    let long : length part ≡ w = omega (arith, length-take w (drop i bits), length-drop i bits) in
    ap (λ (n : ℕ). bits_of n (mask_l part)) (sym long) ∙ bits_back part

packed-unpacked_to : (h r : ℕ) (bits : List Bool) (n : ℕ) → (h + r) * n ≤ length bits
    → packed_suffixes h r (unpacked_suffixes h r bits n) ≡ take ((h + r) * n) bits
packed-unpacked_to h r bits zero there =
    let none : 0 ≡ (h + r) * 0 = omega arith in
    ap (packed_suffixes h r) (unpacked-nothing h r bits) ∙ packed-nothing h r ∙ ap (λ (n : ℕ). take n bits) none
packed-unpacked_to h r bits (suc n) there =
    let w = h + r in
    let next : w * n + w ≡ w * suc n = omega arith in
    ap (λ (m : ℕ). packed_suffixes h r (unpacked_suffixes h r bits m)) (sym (add-one n))
    ∙ ap (packed_suffixes h r) (unpacked_more h r bits n)
    ∙ packed-push h r (unpacked_suffixes h r bits n) (suffix_in h (number_at bits (w * n) w))
    ∙ ap₂ (λ (xs ys : List Bool). xs ++ ys) (packed-unpacked_to h r bits n (omega (arith, next)))
    (ap (bits_of w) (suffix_number-in h (number_at bits (w * n) w)) ∙ slot_bits bits (w * n) w (omega (arith, next)))
    ∙ sym (take-add (w * n) w bits) ∙ ap (λ (m : ℕ). take m bits) next

pub packed-unpacked : (h r : ℕ) (bits : List Bool) (n : ℕ) → length bits ≡ (h + r) * n
    → packed_suffixes h r (unpacked_suffixes h r bits n) ≡ bits
packed-unpacked h r bits n long =
    packed-unpacked_to h r bits n (omega (arith, long)) ∙ take_all ((h + r) * n) bits (omega (arith, long))

-- ---- one suffix more

-- the number at a slot whose bits all stand in the first part
number_at-front : (xs ys : List Bool) (i w : ℕ) → i + w ≤ length xs → number_at (xs ++ ys) i w ≡ number_at xs i w
number_at-front xs ys i w there =
    ap (λ (bs : List Bool). mask_l (take w bs)) (drop-append-le i xs ys (omega arith))
    ∙ ap mask_l (take-append-le w (drop i xs) ys (omega (arith, length-drop i xs)))

number_at-end : (xs : List Bool) (i w n : ℕ) → length xs ≡ i → n < 2 ^ w → number_at (xs ++ bits_of w n) i w ≡ n
number_at-end xs i w n long fits =
    ap (λ (bs : List Bool). mask_l (take w bs)) (drop-append-le i xs (bits_of w n) (omega (arith, long)))
    ∙ ap (λ (bs : List Bool). mask_l (take w (bs ++ bits_of w n))) (drop_all i xs (omega (arith, long)))
    ∙ ap mask_l (take_all w (bits_of w n) (omega (arith, length-bits_of w n)))
    ∙ number_back w n ∙ mod-eq_of_lt fits

unpacked-front : (h r : ℕ) (xs ys : List Bool) (n : ℕ) → length xs ≡ (h + r) * n → unpacked_suffixes h r (xs ++ ys) n ≡ unpacked_suffixes h r xs n
unpacked-front h r xs ys n long =
    same_lists (unpacked_suffixes h r (xs ++ ys) n) (unpacked_suffixes h r xs n) (length-unpacked h r (xs ++ ys) n ∙ sym (length-unpacked h r xs n))
    (λ k d below.
    let within : k < n = omega (arith, length-unpacked h r (xs ++ ys) n) in
    let room : (h + r) * suc k ≤ (h + r) * n = mul-le-mul_left (h + r) within in
    get_or-unpacked h r (xs ++ ys) n k d within ∙ ap (suffix_in h) (number_at-front xs ys ((h + r) * k) (h + r) (omega (arith, room, long)))
    ∙ sym (get_or-unpacked h r xs n k d within))

pub unpacked-push : (h r : ℕ) (bits : List Bool) (n : ℕ) (s : Suffix) → length bits ≡ (h + r) * n → IsOfWidths h r s
    → unpacked_suffixes h r (bits ++ bits_of (h + r) (suffix_number h s)) (n + 1) ≡ unpacked_suffixes h r bits n ++ s ∷ []
unpacked-push h r bits n s long fits =
    let more = bits_of (h + r) (suffix_number h s) in
    unpacked_more h r (bits ++ more) n
    ∙ ap₂ (λ (xs : List Suffix) (x : Suffix). xs ++ x ∷ []) (unpacked-front h r bits more n long)
    (ap (suffix_in h) (number_at-end bits ((h + r) * n) (h + r) (suffix_number h s) long (suffix_number-lt h r s fits)) ∙ suffix_in-number h r s fits)

pub length-pushed : (h r : ℕ) (bits : List Bool) (n m : ℕ) → length bits ≡ (h + r) * n → length (bits ++ bits_of (h + r) m) ≡ (h + r) * (n + 1)
length-pushed h r bits n m long = omega (arith, length-append bits (bits_of (h + r) m), length-bits_of (h + r) m, long)

length-packed : (h r : ℕ) (xs : List Suffix) → length (packed_suffixes h r xs) ≡ (h + r) * length xs
unfolding packed_suffixes
length-packed h r [] = omega arith
length-packed h r (s ∷ xs) =
    let front = bits_of (h + r) (suffix_number h s) in
    let rest = flat_map (λ (x : Suffix). bits_of (h + r) (suffix_number h x)) xs in
    omega (arith, length-append front rest, length-bits_of (h + r) (suffix_number h s), length-packed h r xs)

unpacked-packed_to : (h r : ℕ) (xs : List Suffix) (n : ℕ) → All (IsOfWidths h r) xs → n ≤ length xs
    → unpacked_suffixes h r (packed_suffixes h r (take n xs)) n ≡ take n xs
unpacked-packed_to h r xs zero fits there = unpacked-nothing h r (packed_suffixes h r (take 0 xs))
unpacked-packed_to h r xs (suc n) fits there =
    let s = get_or xs n (0, 0) in
    let next : take (n + 1) xs ≡ take n xs ++ s ∷ [] = take_more xs n (0, 0) there in
    let long : length (packed_suffixes h r (take n xs)) ≡ (h + r) * n =
    length-packed h r (take n xs) ∙ ap (λ (m : ℕ). (h + r) * m) (omega (arith, length-take n xs)) in
    ap (λ (m : ℕ). unpacked_suffixes h r (packed_suffixes h r (take m xs)) m) (sym (add-one n))
    ∙ ap (λ (ys : List Suffix). unpacked_suffixes h r (packed_suffixes h r ys) (n + 1)) next
    ∙ ap (λ (bs : List Bool). unpacked_suffixes h r bs (n + 1)) (packed-push h r (take n xs) s)
    ∙ unpacked-push h r (packed_suffixes h r (take n xs)) n s long (fits n (0, 0) there)
    ∙ ap (λ (ys : List Suffix). ys ++ s ∷ []) (unpacked-packed_to h r xs n fits (omega arith))
    ∙ sym next ∙ ap (λ (m : ℕ). take m xs) (add-one n)

pub unpacked-packed : (h r : ℕ) (xs : List Suffix) → All (IsOfWidths h r) xs → unpacked_suffixes h r (packed_suffixes h r xs) (length xs) ≡ xs
unpacked-packed h r xs fits =
    let whole : take (length xs) xs ≡ xs = take_all (length xs) xs (omega arith) in
    ap (λ (ys : List Suffix). unpacked_suffixes h r (packed_suffixes h r ys) (length xs)) (sym whole)
    ∙ unpacked-packed_to h r xs (length xs) fits (omega arith) ∙ whole

-- the bits of a slot stand among all
pub slot_room : (w n slot len : ℕ) → len ≡ w * n → slot < n → w * slot + w ≤ len
slot_room w n slot len long below =
    let room : w * suc slot ≤ w * n = mul-le-mul_left w below in
    omega (arith, room, long)
