-- Sections of bits whose padding is clear are the packing of the bits that are read from them, one after the other.
use Rattle.std.proofs.Common.{◌≡◌, ℕ, ◌+◌, ◌*◌, ◌/◌, ◌%◌, ◌^◌, ◌<◌, ◌≤◌, ◌⊎◌, Bool, false, List, [], ◌∷◌, ◌++◌, length, get_or, take, drop, sym, ap, ◌∙◌, arith, inl, inr, lit<, eqb}
use Rattle.std.specs.Prelude.{not, ◌&&◌, ◌==◌, None, slice_index}
use Rattle.std.proofs.lemmas.Nat.{pow_pos}
use Rattle.std.proofs.Math.Nat.{div-lt_iff_lt-mul, lt_of_lt_of_le, pow-le-pow_right, div-eq_of_lt}
use Rattle.std.specs.Int.{bit_at, div_ceil}
use Rattle.std.proofs.lemmas.List.{get_or_past, get_or-take, get_or-drop, length-take, length-take-le, length-drop, take-append-drop, drop-drop, drop_all}
use Rattle.std.proofs.lemmas.Bool.{cases_lt, cases_Bool, eqb-true, eqb-false}
use Rattle.bit_model.specs.Packed.{packed, unpacked, packed_bit}
use Rattle.bit_words.proofs.Packing.{length-unpacked, get_or-unpacked, packed_is}
use Rattle.byte_fields.specs.Spelling.{IsBytes}
use Rattle.filter_image_model.specs.Header.{Bytes, place_after}
use Rattle.filter_image_model.specs.Reading.{has_padding, padding_fault}
use Rattle.byte_fields.proofs.FaultLemmas.{kept, not_false}
use Rattle.byte_fields.proofs.NumberLemmas.{IsBytes-drop}

-- the bits behind the nth in the last of some bytes are clear
abbrev pub IsClear : ℕ → Bytes → Type 0
IsClear n s = (n % 8 ≡ 0) ⊎ (slice_index s (n / 8) < 2 ^ (n % 8))

high_clear : (b k m : ℕ) → b < 2 ^ k → k ≤ m → eqb (bit_at b m) 1 ≡ false
high_clear b k m small le =
    let zero_is : b / 2 ^ m ≡ 0 = div-eq_of_lt (lt_of_lt_of_le small (pow-le-pow_right (lit< tt) le)) in
    ap (λ (x : ℕ). eqb (x % 2) 1) zero_is

past_clear : (m : ℕ) → eqb (bit_at 0 m) 1 ≡ false
past_clear m = high_clear 0 0 m (lit< tt) (omega arith)

tail_clear : (n : ℕ) (s : Bytes) → length s ≡ div_ceil n 8 → IsClear n s → (i : ℕ) → n ≤ i → packed_bit 8 s i ≡ false
tail_clear n s long clear i past = elim (cases_lt (i / 8) (length s)) [
  | inl here ↦
      let same : i / 8 ≡ n / 8 = omega (arith, long) in
      elim clear [
        | inl whole ↦ absurd (omega (arith, long))
        | inr low ↦
            let le : n % 8 ≤ i % 8 = omega arith in
            ap (λ (k : ℕ). eqb (bit_at (slice_index s k) (i % 8)) 1) same ∙ high_clear (slice_index s (n / 8)) (n % 8) (i % 8) low le
      ]
  | inr there ↦ ap (λ (b : ℕ). eqb (bit_at b (i % 8)) 1) (get_or_past s (i / 8) 0 there) ∙ past_clear (i % 8)
]

-- bytes that are enough for n bits, with clear padding, are the packing of these
pub section_is : (n : ℕ) (s : Bytes) → IsBytes s → length s ≡ div_ceil n 8 → IsClear n s → s ≡ packed 8 (unpacked 8 s n)
section_is n s bytes long clear = packed_is 8 (unpacked 8 s n) s (lit< tt) (long ∙ ap (λ k. div_ceil k 8) (sym (length-unpacked 8 s n))) bytes go
  where
    go : (i : ℕ) → packed_bit 8 s i ≡ get_or (unpacked 8 s n) i false
    go i = elim (cases_lt i n) [
      | inl here ↦ sym (get_or-unpacked 8 s n i false here)
      | inr there ↦ tail_clear n s long clear i there ∙ sym (get_or_past (unpacked 8 s n) i false (omega (arith, length-unpacked 8 s n)))
    ]

pub IsBytes-take : (n : ℕ) (bytes : Bytes) → IsBytes bytes → IsBytes (take n bytes)
IsBytes-take n bytes h i = elim (cases_lt i n) [
  | inl here ↦ rw (get_or-take n bytes i 0 here) (h i)
  | inr there ↦ rw (get_or_past (take n bytes) i 0 (omega (arith, length-take n bytes))) (lit< tt)
]

quotient_zero : (x k : ℕ) → x / 2 ^ k ≡ 0 → x < 2 ^ k
quotient_zero x k e =
    let below : x < 1 * 2 ^ k = (div-lt_iff_lt-mul {k = 2 ^ k} {x = x} {y = 1} (pow_pos k)).0 (omega (arith, e)) in omega (arith, below)

clear_from : (place n : ℕ) (bytes : Bytes) → has_padding place n bytes ≡ false → IsClear n (take (div_ceil n 8) (drop place bytes))
clear_from place n bytes e = elim (cases_Bool (n % 8 == 0)) [
  | inl whole ↦ inl (eqb-true (n % 8) 0 whole)
  | inr part ↦
      let odd : n % 8 ≡ 0 → ⊥ = eqb-false (n % 8) 0 part in
      let at : slice_index (take (div_ceil n 8) (drop place bytes)) (n / 8) ≡ slice_index bytes (place + n / 8) =
      get_or-take (div_ceil n 8) (drop place bytes) (n / 8) 0 (omega arith) ∙ get_or-drop place bytes (n / 8) 0 in
      let none : not (slice_index bytes (place + n / 8) / 2 ^ (n % 8) == 0) ≡ false = sym (ap (λ (t : Bool). not t && not (slice_index bytes (place + n / 8) / 2 ^ (n % 8) == 0)) part) ∙ e in
      inr (rw at (quotient_zero (slice_index bytes (place + n / 8)) (n % 8) (eqb-true _ 0 (not_false _ none))))
]

-- the sections, each as the packing of its bits
abbrev pub spelled_from : ℕ → List ℕ → Bytes → Bytes
spelled_from place [] bytes = []
spelled_from place (n ∷ more) bytes = packed 8 (unpacked 8 (take (div_ceil n 8) (drop place bytes)) n) ++ spelled_from (place + div_ceil n 8) more bytes

pub place_after-le : (place : ℕ) (widths : List ℕ) → place ≤ place_after place widths
place_after-le place [] = omega arith
place_after-le place (n ∷ more) = omega (arith, place_after-le (place + div_ceil n 8) more)

pub sections_are : (place : ℕ) (widths : List ℕ) (bytes : Bytes) → IsBytes bytes → padding_fault place widths bytes ≡ None
    → place_after place widths ≡ length bytes → spelled_from place widths bytes ≡ drop place bytes
sections_are place [] bytes h e long = sym (drop_all place bytes (omega (arith, long)))
sections_are place (n ∷ more) bytes h e long =
    let parts = kept (has_padding place n bytes) _ _ _ e in
    let w = div_ceil n 8 in
    let room = place_after-le (place + w) more in
    let s = take w (drop place bytes) in
    let size : length s ≡ w = length-take-le w (drop place bytes) (omega (arith, length-drop place bytes, room, long)) in
    let here = section_is n s (IsBytes-take w (drop place bytes) (IsBytes-drop place bytes h)) size (clear_from place n bytes parts.0) in
    ap (λ (t : Bytes). t ++ spelled_from (place + w) more bytes) (sym here)
    ∙ ap (λ (t : Bytes). s ++ t) (sections_are (place + w) more bytes h parts.1 long)
    ∙ ap (λ (t : Bytes). s ++ t) (sym (drop-drop w place bytes))
    ∙ take-append-drop w (drop place bytes)
