-- Where the sections stand, by the numbers of a header.
use Rattle.std.proofs.Common.{◌≡◌, ℕ, ◌+◌, ◌-◌, ◌*◌, ◌/◌, ◌%◌, ◌∙◌, refl, sym, ap, subst, arith, take, drop, length, eq-eqb, true, false, Bool}
use Rattle.std.specs.Option.{option_or}
use Rattle.std.specs.Prelude.{◌==◌, ◌^◌, ◌&&◌, not, slice_index, Option, Some, None, [], ◌∷◌}
use Rattle.std.specs.Int.{div_ceil}
use Rattle.byte_fields.specs.Faults.{Fault, refuse}
use Rattle.filter_codec.specs.Judging.{header_in, image_end, places_by}
use Rattle.filter_codec.specs.declared.header.Header.{Header}
use Rattle.filter_codec.specs.declared.header.Places.{Places}
use Rattle.filter_image_model.specs.Header.{Bytes, dense_count_in, label_count_in, leaf_count_in, suffix_bits_in, section_bits, section_bytes, section_place}
use Rattle.filter_image_model.specs.Reading.{has_padding, padding_fault}

cut_at : (from place width size : ℕ) (bytes : Bytes) → from ≡ place → width ≡ size → take width (drop from bytes) ≡ take size (drop place bytes)
cut_at from place width size bytes e f = λ j. take (f j) (drop (e j) bytes)

abbrev padding_of : ℕ → ℕ → Bytes → Option Fault → Option Fault
padding_of place bits bytes later = refuse (has_padding place bits bytes) (place + bits / 8) 6 later

module _ (d l w : ℕ) where
  width_0 : 40 + 32 * d - 40 ≡ div_ceil (256 * d) 8
  width_0 = omega arith

  place_1 : 40 + 32 * d ≡ 40 + div_ceil (256 * d) 8
  place_1 = omega arith

  width_1 : 40 + 64 * d - (40 + 32 * d) ≡ div_ceil (256 * d) 8
  width_1 = omega arith

  place_2 : 40 + 64 * d ≡ 40 + div_ceil (256 * d) 8 + div_ceil (256 * d) 8
  place_2 = omega arith

  width_2 : 40 + 64 * d + div_ceil d 8 - (40 + 64 * d) ≡ div_ceil d 8
  width_2 = omega arith

  place_3 : 40 + 64 * d + div_ceil d 8 ≡ 40 + div_ceil (256 * d) 8 + div_ceil (256 * d) 8 + div_ceil d 8
  place_3 = omega arith

  width_3 : 40 + 64 * d + div_ceil d 8 + l - (40 + 64 * d + div_ceil d 8) ≡ div_ceil (8 * l) 8
  width_3 = omega arith

  place_4 : 40 + 64 * d + div_ceil d 8 + l ≡ 40 + div_ceil (256 * d) 8 + div_ceil (256 * d) 8 + div_ceil d 8 + div_ceil (8 * l) 8
  place_4 = omega arith

  width_4 : 40 + 64 * d + div_ceil d 8 + l + div_ceil l 8 - (40 + 64 * d + div_ceil d 8 + l) ≡ div_ceil l 8
  width_4 = omega arith

  place_5 : 40 + 64 * d + div_ceil d 8 + l + div_ceil l 8 ≡ 40 + div_ceil (256 * d) 8 + div_ceil (256 * d) 8 + div_ceil d 8 + div_ceil (8 * l) 8 + div_ceil l 8
  place_5 = omega arith

  width_5 : 40 + 64 * d + div_ceil d 8 + l + 2 * div_ceil l 8 - (40 + 64 * d + div_ceil d 8 + l + div_ceil l 8) ≡ div_ceil l 8
  width_5 = omega arith

  place_6 : 40 + 64 * d + div_ceil d 8 + l + 2 * div_ceil l 8
      ≡ 40 + div_ceil (256 * d) 8 + div_ceil (256 * d) 8 + div_ceil d 8 + div_ceil (8 * l) 8 + div_ceil l 8 + div_ceil l 8
  place_6 = omega arith

  width_6 : 40 + 64 * d + div_ceil d 8 + l + 2 * div_ceil l 8 + div_ceil w 8 - (40 + 64 * d + div_ceil d 8 + l + 2 * div_ceil l 8) ≡ div_ceil w 8
  width_6 = omega arith

  clear_dense : (256 * d) % 8 ≡ 0
  clear_dense = omega arith

  clear_labels : (8 * l) % 8 ≡ 0
  clear_labels = omega arith

  -- whole bytes have no padding
  skip : (place m : ℕ) (bytes : Bytes) (later : Option Fault) → m % 8 ≡ 0 → refuse (has_padding place m bytes) (place + m / 8) 6 later ≡ later
  skip place m bytes later e =
      ap (λ (t : Bool). refuse (not t && not (get_byte / 2 ^ (m % 8) == 0)) (place + m / 8) 6 later) (eq-eqb (m % 8) 0 e)
    where
      get_byte : ℕ
      get_byte = slice_index bytes (place + m / 8)

  pub padded : (bytes : Bytes)
      → padding_fault 40 (256 * d ∷ 256 * d ∷ d ∷ 8 * l ∷ l ∷ l ∷ w ∷ []) bytes
      ≡ padding_of (40 + 64 * d) d bytes (padding_of (40 + 64 * d + div_ceil d 8 + l) l bytes (padding_of (40 + 64 * d + div_ceil d 8 + l + div_ceil l 8) l bytes (padding_of (40 + 64 * d + div_ceil d 8 + l + 2 * div_ceil l 8) w bytes None)))
  padded bytes =
      skip 40 (256 * d) bytes _ clear_dense
      ∙ skip (40 + div_ceil (256 * d) 8) (256 * d) bytes _ clear_dense
      ∙ (λ j. padding_of (sym place_2 j) d bytes (
      (skip (40 + div_ceil (256 * d) 8 + div_ceil (256 * d) 8 + div_ceil d 8) (8 * l) bytes _ clear_labels
      ∙ (λ j. padding_of (sym place_4 j) l bytes (padding_of (sym place_5 j) l bytes (padding_of (sym place_6 j) w bytes None)))) j))

module _ (bytes : Bytes) where
  abbrev d : ℕ
  d = dense_count_in bytes

  abbrev l : ℕ
  l = label_count_in bytes

  abbrev w : ℕ
  w = leaf_count_in bytes * suffix_bits_in bytes

  abbrev Laid : (Places → Type 0) → Type 0
  Laid P = (p : Places) → p ≡ places_by (header_in bytes) → P p

  at : (P : Places → Type 0) → P (places_by (header_in bytes)) → Laid P
  at P x p e = subst P (sym e) x

  pub section_0 : Laid (λ p. take (p.dense_children - 40) (drop 40 bytes) ≡ section_bytes 0 bytes)
  unfolding section_bytes section_place section_bits
  section_0 = at _ (cut_at 40 40 _ _ bytes refl (width_0 d l w))

  pub section_1 : Laid (λ p. take (p.dense_ends - p.dense_children) (drop p.dense_children bytes) ≡ section_bytes 1 bytes)
  unfolding section_bytes section_place section_bits
  section_1 = at _ (cut_at _ _ _ _ bytes (place_1 d l w) (width_1 d l w))

  pub section_2 : Laid (λ p. take (p.labels - p.dense_ends) (drop p.dense_ends bytes) ≡ section_bytes 2 bytes)
  unfolding section_bytes section_place section_bits
  section_2 = at _ (cut_at _ _ _ _ bytes (place_2 d l w) (width_2 d l w))

  pub section_3 : Laid (λ p. take (p.children - p.labels) (drop p.labels bytes) ≡ section_bytes 3 bytes)
  unfolding section_bytes section_place section_bits
  section_3 = at _ (cut_at _ _ _ _ bytes (place_3 d l w) (width_3 d l w))

  pub section_4 : Laid (λ p. take (p.louds - p.children) (drop p.children bytes) ≡ section_bytes 4 bytes)
  unfolding section_bytes section_place section_bits
  section_4 = at _ (cut_at _ _ _ _ bytes (place_4 d l w) (width_4 d l w))

  pub section_5 : Laid (λ p. take (p.suffixes - p.louds) (drop p.louds bytes) ≡ section_bytes 5 bytes)
  unfolding section_bytes section_place section_bits
  section_5 = at _ (cut_at _ _ _ _ bytes (place_5 d l w) (width_5 d l w))

  pub section_6 : image_end (header_in bytes) ≡ length bytes → Laid (λ p. take (length bytes - p.suffixes) (drop p.suffixes bytes) ≡ section_bytes 6 bytes)
  unfolding section_bytes section_place section_bits
  section_6 e = at _ (cut_at _ _ _ _ bytes (place_6 d l w) (ap (λ n. n - (places_by (header_in bytes)).suffixes) (sym e) ∙ width_6 d l w))

-- a fault of one section, and then of the next
abbrev pub padding_in : ℕ → ℕ → Bytes → Option Fault
padding_in place bits bytes = refuse (has_padding place bits bytes) (place + bits / 8) 6 None

or_refuse : (t : Bool) (place rule : ℕ) (later : Option Fault) → refuse t place rule later ≡ option_or (refuse t place rule None) later
or_refuse true place rule later = refl
or_refuse false place rule later = refl

joined : (place bits : ℕ) (bytes : Bytes) (later others : Option Fault) → later ≡ others → padding_of place bits bytes later ≡ option_or (padding_in place bits bytes) others
joined place bits bytes later others e =
    ap (padding_of place bits bytes) e ∙ or_refuse (has_padding place bits bytes) (place + bits / 8) 6 others

pub padded_by : (bytes : Bytes) (h : Header) (p : Places) → h ≡ header_in bytes → p ≡ places_by h
    → padding_fault 40 (section_bits bytes) bytes
    ≡ option_or (padding_in p.dense_ends h.dense bytes) (option_or (padding_in p.children h.labels bytes) (option_or (padding_in p.louds h.labels bytes) (padding_in p.suffixes (h.leaves * (h.hash_bits + h.real_bits)) bytes)))
unfolding section_bits
padded_by bytes h p e f =
    let d = dense_count_in bytes in
    let l = label_count_in bytes in
    let w = leaf_count_in bytes * suffix_bits_in bytes in
    let q = places_by (header_in bytes) in
    padded d l w bytes
    ∙ joined q.dense_ends d bytes _ _ (joined q.children l bytes _ _ (joined q.louds l bytes _ _ refl))
    ∙ (λ j. at_header (sym (f ∙ ap places_by e) j) (sym e j))
  where
    at_header : Places → Header → Option Fault
    at_header p h = option_or (padding_in p.dense_ends h.dense bytes) (option_or (padding_in p.children h.labels bytes) (option_or (padding_in p.louds h.labels bytes) (padding_in p.suffixes (h.leaves * (h.hash_bits + h.real_bits)) bytes)))

pub or_some : (x later : Option Fault) (f : Fault) → Some f ≡ x → Some f ≡ option_or x later
or_some x later f e = ap (λ (x : Option Fault). option_or x later) e

pub or_none : (x later y : Option Fault) → None ≡ x → y ≡ later → y ≡ option_or x later
or_none x later y e f = f ∙ ap (λ (x : Option Fault). option_or x later) e
