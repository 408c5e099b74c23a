-- Packed lists of bits, one after the other, are read as they were written, and their padding is clear.
use Rattle.std.proofs.Common.{◌≡◌, ℕ, ◌+◌, ◌*◌, ◌/◌, ◌%◌, ◌^◌, ◌<◌, ◌≤◌, Bool, false, List, [], ◌∷◌, length, take, drop, map, refl, sym, ap, ◌∙◌, arith, inl, inr, lit<, subst}
use Rattle.std.specs.Prelude.{not, ◌&&◌, ◌==◌, None, slice_index, flat_map}
use Rattle.std.proofs.Math.Nat.{div-eq_of_lt}
use Rattle.std.specs.Int.{div_ceil}
use Rattle.std.specs.Simd.Lanes.{mask_l}
use Rattle.std.proofs.lemmas.Simd.{mask_l-lt}
use Rattle.std.proofs.lemmas.List.{get_or-take, get_or-drop, length-take, length-drop, drop-drop, take_at, drop_at}
use Rattle.std.proofs.lemmas.Bool.{cases_Bool, eqb-false}
use Rattle.bit_model.specs.Packed.{packed, unpacked}
use Rattle.bit_words.proofs.Packing.{length-packed, get_or-packed, unpacked-packed}
use Rattle.filter_image_model.specs.Header.{Bytes, place_after}
use Rattle.filter_image_model.specs.Reading.{has_padding, padding_fault}
use Rattle.byte_fields.proofs.FaultLemmas.{passed}

abbrev pub widths : List (List Bool) → List ℕ
widths bss = map (λ (bits : List Bool). length bits) bss

abbrev pub laid : List (List Bool) → Bytes
laid bss = flat_map (packed 8) bss

-- from a place on, bytes are these sections
abbrev pub IsLaid : ℕ → List (List Bool) → Bytes → Type 0
IsLaid place bss bytes = drop place bytes ≡ laid bss

pub first_section : (place : ℕ) (bits : List Bool) (bss : List (List Bool)) (bytes : Bytes) → IsLaid place (bits ∷ bss) bytes
    → take (div_ceil (length bits) 8) (drop place bytes) ≡ packed 8 bits
first_section place bits bss bytes e = ap (take (div_ceil (length bits) 8)) e ∙ take_at (packed 8 bits) (laid bss) (div_ceil (length bits) 8) (length-packed 8 bits)

pub next_section : (place : ℕ) (bits : List Bool) (bss : List (List Bool)) (bytes : Bytes) → IsLaid place (bits ∷ bss) bytes
    → IsLaid (place + div_ceil (length bits) 8) bss bytes
next_section place bits bss bytes e =
    sym (drop-drop (div_ceil (length bits) 8) place bytes) ∙ ap (drop (div_ceil (length bits) 8)) e ∙ drop_at (packed 8 bits) (laid bss) (div_ceil (length bits) 8) (length-packed 8 bits)

pub bits_again : (place : ℕ) (bits : List Bool) (bss : List (List Bool)) (bytes : Bytes) → IsLaid place (bits ∷ bss) bytes
    → unpacked 8 (take (div_ceil (length bits) 8) (drop place bytes)) (length bits) ≡ bits
bits_again place bits bss bytes e = ap (λ (s : Bytes). unpacked 8 s (length bits)) (first_section place bits bss bytes e) ∙ unpacked-packed 8 bits (lit< tt)

pub ends_at : (place : ℕ) (bss : List (List Bool)) (bytes : Bytes) → place ≤ length bytes → IsLaid place bss bytes → place_after place (widths bss) ≡ length bytes
ends_at place [] bytes le e = omega (arith, ap length e, length-drop place bytes)
ends_at place (bits ∷ bss) bytes le e =
    let size = ap length (first_section place bits bss bytes e) ∙ length-packed 8 bits in
    ends_at (place + div_ceil (length bits) 8) bss bytes (omega (arith, size, length-take (div_ceil (length bits) 8) (drop place bytes), length-drop place bytes)) (next_section place bits bss bytes e)

last_byte : (bits : List Bool) → slice_index (packed 8 bits) (length bits / 8) / 2 ^ (length bits % 8) ≡ 0
last_byte bits =
    let part = take 8 (drop (8 * (length bits / 8)) bits) in
    let size : length part ≡ length bits % 8 = omega (arith, length-take 8 (drop (8 * (length bits / 8)) bits), length-drop (8 * (length bits / 8)) bits) in
    let small : mask_l part < 2 ^ (length bits % 8) = subst (λ k. mask_l part < 2 ^ k) size (mask_l-lt part) in
    ap (λ (b : ℕ). b / 2 ^ (length bits % 8)) (get_or-packed 8 bits (length bits / 8) (lit< tt)) ∙ div-eq_of_lt small

no_padding : (place : ℕ) (bits : List Bool) (bss : List (List Bool)) (bytes : Bytes) → IsLaid place (bits ∷ bss) bytes → has_padding place (length bits) bytes ≡ false
no_padding place bits bss bytes e = elim (cases_Bool (length bits % 8 == 0)) [
  | inl whole ↦ ap (λ (t : Bool). not t && not (slice_index bytes (place + length bits / 8) / 2 ^ (length bits % 8) == 0)) whole
  | inr part ↦
      let odd = eqb-false (length bits % 8) 0 part in
      let w = div_ceil (length bits) 8 in
      let at : slice_index bytes (place + length bits / 8) ≡ slice_index (packed 8 bits) (length bits / 8) =
      sym (get_or-drop place bytes (length bits / 8) 0) ∙ sym (get_or-take w (drop place bytes) (length bits / 8) 0 (below odd)) ∙ ap (λ (s : Bytes). slice_index s (length bits / 8)) (first_section place bits bss bytes e) in
      let none = ap (λ (b : ℕ). b / 2 ^ (length bits % 8)) at ∙ last_byte bits in
      ap (λ (t : Bool). not t && not (slice_index bytes (place + length bits / 8) / 2 ^ (length bits % 8) == 0)) part
      ∙ ap (λ (x : ℕ). not (x == 0)) none
]
  where
    below : (length bits % 8 ≡ 0 → ⊥) → length bits / 8 < div_ceil (length bits) 8
    below odd = omega (arith, odd)

pub padding_clear : (place : ℕ) (bss : List (List Bool)) (bytes : Bytes) → IsLaid place bss bytes → padding_fault place (widths bss) bytes ≡ None
padding_clear place [] bytes e = refl
padding_clear place (bits ∷ bss) bytes e =
    passed (has_padding place (length bits) bytes) _ _ _ (no_padding place bits bss bytes e)
    (padding_clear (place + div_ceil (length bits) 8) bss bytes (next_section place bits bss bytes e))
