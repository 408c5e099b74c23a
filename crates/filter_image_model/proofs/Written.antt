-- Bytes that break no rule on the bytes alone are the image of the nodes and suffixes that are read.
use Rattle.std.proofs.Common.{◌≡◌, ℕ, suc, ◌+◌, ◌*◌, ◌<◌, ◌≤◌, ◌%◌, Bool, true, false, cond, List, [], ◌∷◌, ◌++◌, length, drop, refl, sym, ap, ◌∙◌, arith, inl, append_assoc}
use Rattle.std.specs.Prelude.{not, nat_lt, None, Some, Option, zip, count_by, position}
use Rattle.std.specs.List.{AllByRecursion, position_or_len}
use Rattle.std.specs.Int.{div_ceil}
use Rattle.std.proofs.lemmas.List.{length-take-le, length-drop, take-append-drop, append-nil}
use Rattle.std.proofs.lemmas.Bool.{eqb-true, ltb-false, or_parts}
use Rattle.bit_model.specs.Packed.{packed}
use Rattle.bit_words.proofs.Packing.{length-unpacked}
use Rattle.byte_fields.specs.Spelling.{IsBytes}
use Rattle.byte_fields.proofs.NumberLemmas.{IsBytes-drop}
use Rattle.filter_model.specs.Image.{dense_labels, dense_children, dense_ends}
use Rattle.filter_model.specs.Nodes.{Branch, all}
use Rattle.filter_image_model.specs.Header.{Bytes, hash_bits_in, real_bits_in, cutoff_in, height_in, leaf_count_in, dense_count_in, sparse_count_in, label_count_in, section_bits, section_place, end_place, section_bytes, section}
use Rattle.filter_image_model.specs.Nodes.{dense_in, sparse_in}
use Rattle.filter_image_model.specs.Reading.{is_stray, begins_clear, length_fault, padding_fault, stray_fault, louds_fault}
use Rattle.filter_image_model.specs.Sections.{image_head, sections, KeepsBytes, SectionsAreWritten}
use Rattle.filter_image_model.proofs.Lists.{length-map}
use Rattle.byte_fields.proofs.FaultLemmas.{kept, nowhere, not_false}
use Rattle.filter_image_model.proofs.Headers.{header_kept, header_is}
use Rattle.filter_image_model.proofs.Sections.{section_is, sections_are, IsBytes-take}
use Rattle.filter_image_model.proofs.DenseNodes.{NoStray, labels_back, children_back, ends_back, length-dense}
use Rattle.filter_image_model.proofs.SparseNodes.{SpellsSparse, sparse_back}

pub bytes_all : (xs : Bytes) → IsBytes xs → AllByRecursion (λ c. c < 256) xs
bytes_all [] h = tt
bytes_all (x ∷ xs) h = (h 0, bytes_all xs (λ i. h (suc i)))

-- ---- a position that is not found

cond_none : (t : Bool) (k : ℕ) → cond {A = Option ℕ} t (Some k) None ≡ None → t ≡ false
cond_none true k e = absurd cc
cond_none false k e = refl

not_found : {X : Type 0} (p : X → Bool) (xs : List X) → length xs ≤ position_or_len p xs → AllByRecursion (λ x. p x ≡ false) xs
not_found p [] le = tt
not_found p (x ∷ xs) le = elim (p x) as (λ t. p x ≡ t → length (x ∷ xs) ≤ cond (not t) (1 + position_or_len p xs) 0 → AllByRecursion (λ x. p x ≡ false) (x ∷ xs)) [
  | true ↦ λ is le. absurd (omega (arith, le))
  | false ↦ λ is le. (is, not_found p xs (omega (arith, le)))
] refl le

strays_none : (ls cs : List Bool) → AllByRecursion (λ b. is_stray b ≡ false) (zip ls cs) → NoStray ls cs
strays_none [] cs w = tt
strays_none (l ∷ ls) [] w = tt
strays_none (l ∷ ls) (c ∷ cs) w = (w.0, strays_none ls cs w.1)

no_strays : (bytes : Bytes) → stray_fault bytes ≡ None → NoStray (section 0 bytes) (section 1 bytes)
unfolding stray_fault
no_strays bytes e =
    let bs = zip (section 0 bytes) (section 1 bytes) in
    strays_none (section 0 bytes) (section 1 bytes) (not_found is_stray bs (ltb-false _ _ (cond_none _ _ (nowhere _ (position is_stray bs) e))))

-- ---- lengths

pub whole_length : (bytes : Bytes) → length_fault bytes ≡ None → end_place bytes ≡ length bytes
unfolding length_fault
whole_length bytes e =
    let r1 = kept (nat_lt (length bytes) (end_place bytes)) _ _ _ e in
    let r2 = kept (nat_lt (end_place bytes) (length bytes)) _ _ _ r1.1 in
    let a = ltb-false (length bytes) (end_place bytes) r1.0 in
    let b = ltb-false (end_place bytes) (length bytes) r2.0 in
    omega (arith, a, b)

section_lengths : (bytes : Bytes) → (length (section 0 bytes) ≡ 256 * dense_count_in bytes) × (length (section 1 bytes) ≡ 256 * dense_count_in bytes) × (length (section 2 bytes) ≡ dense_count_in bytes)
    × (length (section 4 bytes) ≡ label_count_in bytes) × (length (section 5 bytes) ≡ label_count_in bytes)
unfolding section section_bits
section_lengths bytes = (length-unpacked 8 _ _, length-unpacked 8 _ _, length-unpacked 8 _ _, length-unpacked 8 _ _, length-unpacked 8 _ _)

label_bytes : (bytes : Bytes) → end_place bytes ≡ length bytes → length (section_bytes 3 bytes) ≡ label_count_in bytes
unfolding section_bytes section_place section_bits
label_bytes bytes e =
    let m = label_count_in bytes in
    let d = dense_count_in bytes in
    let place = 40 + div_ceil (256 * d) 8 + div_ceil (256 * d) 8 + div_ceil d 8 in
    let w : div_ceil (8 * m) 8 ≡ m = omega arith in
    length-take-le (div_ceil (8 * m) 8) (drop place bytes) (omega (arith, length-drop place bytes, e)) ∙ w

section_is_bytes : (n : ℕ) (bytes : Bytes) → IsBytes bytes → IsBytes (section_bytes n bytes)
unfolding section_bytes
section_is_bytes n bytes h = IsBytes-take _ _ (IsBytes-drop _ bytes h)

labels_are : (bytes : Bytes) → IsBytes bytes → end_place bytes ≡ length bytes → packed 8 (section 3 bytes) ≡ section_bytes 3 bytes
unfolding section section_bits
labels_are bytes h e =
    let m = label_count_in bytes in
    let w : div_ceil (8 * m) 8 ≡ m = omega arith in
    let clear : (8 * m) % 8 ≡ 0 = omega arith in
    sym (section_is (8 * m) (section_bytes 3 bytes) (section_is_bytes 3 bytes h) (label_bytes bytes e ∙ sym w) (inl clear))

pub label_values : (bytes : Bytes) → IsBytes bytes → AllByRecursion (λ c. c < 256) (section_bytes 3 bytes)
unfolding section_bytes
label_values bytes h = bytes_all _ (IsBytes-take _ _ (IsBytes-drop _ bytes h))

pub louds_kept : (bytes : Bytes) → louds_fault bytes ≡ None → (count_by (λ b. b) (section 5 bytes) ≡ sparse_count_in bytes) × (begins_clear (section 5 bytes) ≡ false)
unfolding louds_fault
louds_kept bytes e =
    let r = or_parts _ _ (kept _ _ _ _ e).0 in (eqb-true _ _ (not_false _ r.0), r.1)

-- ---- the nodes

pub dense_count : (bytes : Bytes) → length (dense_in bytes) ≡ dense_count_in bytes
unfolding dense_in
dense_count bytes = length-dense (section 2 bytes) (section 0 bytes) (section 1 bytes) ∙ (section_lengths bytes).2

pub record SpellsDense (bytes : Bytes) : Type 0 where
  pub labels_are : dense_labels (dense_in bytes) ≡ section 0 bytes
  pub children_are : dense_children (dense_in bytes) ≡ section 1 bytes
  pub ends_are : dense_ends (dense_in bytes) ≡ section 2 bytes

pub dense_spelled : (bytes : Bytes) → stray_fault bytes ≡ None → SpellsDense bytes
unfolding dense_in
dense_spelled bytes e =
    let l = section_lengths bytes in
    let a : length (section 0 bytes) ≡ 256 * length (section 2 bytes) = l.0 ∙ ap (λ n. 256 * n) (sym l.2) in
    let b : length (section 1 bytes) ≡ 256 * length (section 2 bytes) = l.1 ∙ ap (λ n. 256 * n) (sym l.2) in
    record {
      labels_are = labels_back (section 2 bytes) (section 0 bytes) (section 1 bytes) a b;
      children_are = children_back (section 2 bytes) (section 0 bytes) (section 1 bytes) a b (no_strays bytes e);
      ends_are = ends_back (section 2 bytes) (section 0 bytes) (section 1 bytes);
    }

pub sparse_spelled : (bytes : Bytes) → KeepsBytes bytes → SpellsSparse (section_bytes 3 bytes) (section 4 bytes) (section 5 bytes) (sparse_in bytes)
unfolding sparse_in
sparse_spelled bytes k =
    let l = section_lengths bytes in
    let e = label_bytes bytes (whole_length bytes k.lengths) in
    sparse_back (section_bytes 3 bytes) (section 4 bytes) (section 5 bytes) (e ∙ sym l.3) (e ∙ sym l.4) (label_values bytes k.bytes_are) (louds_kept bytes k.louds).1

-- ---- the whole

pub join : (a b c d e f g : Bytes) → a ++ b ++ c ++ d ++ e ++ f ++ g ≡ a ++ (b ++ (c ++ (d ++ (e ++ (f ++ (g ++ []))))))
join a b c d e f g = simp (append_assoc, append-nil)

sections_in : (bytes : Bytes) → IsBytes bytes → padding_fault 40 (section_bits bytes) bytes ≡ None → end_place bytes ≡ length bytes
    → packed 8 (section 0 bytes) ++ packed 8 (section 1 bytes) ++ packed 8 (section 2 bytes) ++ packed 8 (section 3 bytes) ++ packed 8 (section 4 bytes)
    ++ packed 8 (section 5 bytes) ++ packed 8 (section 6 bytes) ≡ drop 40 bytes
unfolding section section_bytes section_place section_bits
sections_in bytes h e long =
    join (packed 8 (section 0 bytes)) (packed 8 (section 1 bytes)) (packed 8 (section 2 bytes)) (packed 8 (section 3 bytes)) (packed 8 (section 4 bytes)) (packed 8 (section 5 bytes)) (packed 8 (section 6 bytes))
    ∙ sections_are 40 (section_bits bytes) bytes h e long

pub sections_written : SectionsAreWritten
unfolding sections
sections_written bytes k =
    let h = k.bytes_are in
    let long = whole_length bytes k.lengths in
    let d = dense_spelled bytes k.strays in
    let s = sparse_spelled bytes k in
    let head = header_is bytes h (header_kept bytes k.header) in
    let dense_length = dense_count bytes in
    let sparse_length : length (sparse_in bytes) ≡ sparse_count_in bytes = s.count ∙ (louds_kept bytes k.louds).0 in
    let label_length : length (all (sparse_in bytes)) ≡ label_count_in bytes = sym (length-map (λ (b : Branch). b.1) (all (sparse_in bytes))) ∙ ap length s.children_are ∙ (section_lengths bytes).3 in
    sym (take-append-drop 40 bytes)
    ∙ (λ j. head j ++ sym (sections_in bytes h k.padding long) j)
    ∙ (λ j. image_head (hash_bits_in bytes) (real_bits_in bytes) (cutoff_in bytes) (height_in bytes) (leaf_count_in bytes) (sym dense_length j) (sym sparse_length j) (sym label_length j)
    ++ (packed 8 (sym d.labels_are j) ++ packed 8 (sym d.children_are j) ++ packed 8 (sym d.ends_are j)
    ++ (labels_are bytes h long ∙ sym s.labels_are) j ++ packed 8 (sym s.children_are j) ++ packed 8 (sym s.louds_are j) ++ packed 8 (section 6 bytes)))

pub label_lengths : (bytes : Bytes) → end_place bytes ≡ length bytes
    → (length (section_bytes 3 bytes) ≡ length (section 4 bytes)) × (length (section_bytes 3 bytes) ≡ length (section 5 bytes))
label_lengths bytes e =
    let l = section_lengths bytes in (label_bytes bytes e ∙ sym l.3, label_bytes bytes e ∙ sym l.4)
