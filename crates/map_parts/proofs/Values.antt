-- The value in a slot lies between its offset and the next one.
use Rattle.std.proofs.Common.{◌≡◌, ◌<◌, ◌≤◌, ◌+◌, ◌-◌, ◌*◌, ◌==◌, ℕ, zero, suc, List, [], ◌∷◌, length, take, drop, get_or, slice_range, refl, sym, ap, ◌∙◌, arith, subst}
use Rattle.std.specs.Prelude.{not, None}
use Rattle.std.proofs.lemmas.List.{drop-drop}
use Rattle.byteorder.specs.Endian.{little_number}
use Rattle.byte_fields.proofs.FaultLemmas.{kept}
use Rattle.key_base.specs.KeyLists.{AreEnds, keys_in}
use Rattle.map_file_model.specs.Maps.{Bytes}
use Rattle.map_file_model.specs.Reading.{offset_at, offsets_fault, offsets_in, offsets_place, pair_count_in, pieces, values_in, values_place, words_in}
use Rattle.map_parts.specs.Parts.{HasParts, parts_in}
use Rattle.map_parts.specs.declared.parts.Parts.{Parts}
use Rattle.map_file_model.proofs.Words.{ends_rise, length-words_in, words_at}

-- ---- ends

reach : (from : ℕ) (ends : List ℕ) (last : ℕ) → AreEnds from ends last → from ≤ last
reach from [] last is = omega (arith, is)
reach from (end ∷ ends) last is = omega (arith, is.0, reach end ends last is.1)

next_le : (from : ℕ) (ends : List ℕ) (last i : ℕ) → AreEnds from ends last → i < length ends → (get_or (from ∷ ends) i 0 ≤ get_or ends i 0) × (get_or ends i 0 ≤ last)
next_le from [] last i is lt = absurd (omega (arith, lt))
next_le from (end ∷ ends) last zero is lt = (is.0, reach end ends last is.1)
next_le from (end ∷ ends) last (suc i) is lt = next_le end ends last i is.1 (omega (arith, lt))

piece_at : (from : ℕ) (ends : List ℕ) (bytes : Bytes) (i : ℕ) → i < length ends → get_or (keys_in from ends bytes) i [] ≡ slice_range bytes (get_or (from ∷ ends) i 0) (get_or ends i 0)
piece_at from [] bytes i lt = absurd (omega (arith, lt))
piece_at from (end ∷ ends) bytes zero lt = refl
piece_at from (end ∷ ends) bytes (suc i) lt = piece_at end ends bytes i (omega (arith, lt))

slice_behind : (place a b : ℕ) (bytes : Bytes) → slice_range (drop place bytes) a b ≡ slice_range bytes (place + a) (place + b)
slice_behind place a b bytes =
    let size : b - a ≡ (place + b) - (place + a) = omega arith in
    ap (take (b - a)) (drop-drop a place bytes) ∙ ap (λ (k : ℕ). take k (drop (place + a) bytes)) size

-- ---- of a body

module _ (bytes : Bytes) (rising : offsets_fault bytes ≡ None) where
  abbrev count : ℕ
  count = pair_count_in bytes

  abbrev start : Bytes
  start = drop (offsets_place bytes) bytes

  abbrev origin : ℕ
  origin = little_number 8 (drop (offsets_place bytes) bytes)

  abbrev ends : List ℕ
  ends = words_in (pair_count_in bytes) (drop 8 (drop (offsets_place bytes) bytes))

  offset_is : (i : ℕ) → i ≤ count → get_or (origin ∷ ends) i 0 ≡ offset_at bytes i
  offset_is i le = words_at (suc count) i start (omega (arith, le)) ∙ ap (little_number 8) (drop-drop (8 * i) (offsets_place bytes) bytes)

  are_ends : AreEnds 0 (origin ∷ ends) (get_or (origin ∷ ends) (length ends) 0)
  unfolding offsets_fault offsets_in
  are_ends = ends_rise (offsets_place bytes) 0 (origin ∷ ends) (kept (not (offset_at bytes 0 == 0)) _ _ _ rising).1

  last_is : get_or (origin ∷ ends) (length ends) 0 ≡ offset_at bytes count
  last_is = ap (λ (i : ℕ). get_or (origin ∷ ends) i 0) (length-words_in count (drop 8 start)) ∙ offset_is count (omega arith)

  -- offsets rise up to the last one
  pub offsets_rise : (slot : ℕ) → slot < count → (offset_at bytes slot ≤ offset_at bytes (slot + 1)) × (offset_at bytes (slot + 1) ≤ offset_at bytes (pair_count_in bytes))
  offsets_rise slot lt =
      let size = length-words_in count (drop 8 start) in
      let both = next_le origin ends (offset_at bytes count) slot (subst (AreEnds origin ends) last_is are_ends.1) (omega (arith, size, lt)) in
      let one : suc slot ≡ slot + 1 = omega arith in
      let next : get_or ends slot 0 ≡ offset_at bytes (slot + 1) = offset_is (suc slot) (omega (arith, lt)) ∙ ap (offset_at bytes) one in
      (omega (arith, both.0, offset_is slot (omega (arith, lt)), next), omega (arith, both.1, next))

  values_are : values_in bytes ≡ keys_in origin ends (drop (values_place bytes) bytes)
  unfolding values_in offsets_in
  values_are = refl

  pub value_at : (slot : ℕ) → slot < count
      → get_or (values_in bytes) slot [] ≡ slice_range bytes (values_place bytes + offset_at bytes slot) (values_place bytes + offset_at bytes (slot + 1))
  value_at slot lt =
      let size = length-words_in count (drop 8 start) in
      let one : suc slot ≡ slot + 1 = omega arith in
      let area = drop (values_place bytes) bytes in
      ap (λ (l : List Bytes). get_or l slot []) values_are ∙ piece_at origin ends area slot (omega (arith, size, lt))
      ∙ (λ i. slice_range area (offset_is slot (omega (arith, lt)) i) ((offset_is (suc slot) (omega (arith, lt)) ∙ ap (offset_at bytes) one) i))
      ∙ slice_behind (values_place bytes) (offset_at bytes slot) (offset_at bytes (slot + 1)) bytes

-- a value's two ends, as the code reads them
pub record IsCut (bytes : Bytes) (p : Parts) (slot a b : ℕ) : Type 0 where
  pub rise : a ≤ b
  pub within : p.values + b ≤ length bytes
  pub value : slice_range bytes (p.values + a) (p.values + b) ≡ get_or (values_in bytes) slot []

pub is_cut : (bytes : Bytes) (p : Parts) (slot a b : ℕ) → HasParts bytes → p ≡ parts_in bytes → offsets_fault bytes ≡ None → slot < p.pairs
    → a ≡ little_number 8 (drop (p.offsets + 8 * slot) bytes) → b ≡ little_number 8 (drop (p.offsets + 8 * slot + 8) bytes) → IsCut bytes p slot a b
is_cut bytes p slot a b has parts rising lt a_is b_is =
    let offsets : p.offsets ≡ offsets_place bytes = ap (λ (q : Parts). q.offsets) parts in
    let values : p.values ≡ values_place bytes = ap (λ (q : Parts). q.values) parts in
    let pairs : p.pairs ≡ pair_count_in bytes = ap (λ (q : Parts). q.pairs) parts in
    let inside : slot < pair_count_in bytes = omega (arith, lt, pairs) in
    let here : a ≡ offset_at bytes slot = a_is ∙ ap (λ (o : ℕ). little_number 8 (drop (o + 8 * slot) bytes)) offsets in
    let place : p.offsets + 8 * slot + 8 ≡ offsets_place bytes + 8 * (slot + 1) = omega (arith, offsets) in
    let next : b ≡ offset_at bytes (slot + 1) = b_is ∙ ap (λ (o : ℕ). little_number 8 (drop o bytes)) place in
    let rise = offsets_rise bytes rising slot inside in
    record {
      rise = omega (arith, rise.0, here, next);
      within = omega (arith, rise.1, next, values, has.end_within);
      value = (λ i. slice_range bytes (values i + here i) (values i + next i)) ∙ sym (value_at bytes rising slot inside);
    }
