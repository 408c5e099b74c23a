-- A header that breaks no rule is the one that is written of its numbers.
use Rattle.std.proofs.Common.{◌≡◌, ℕ, zero, suc, ◌<◌, ◌≤◌, false, List, [], ◌∷◌, ◌++◌, length, take, drop, refl, sym, ap, ◌∙◌, arith, take-add}
use Rattle.std.specs.Prelude.{◌==◌, ◌||◌, nat_lt, None, slice_index}
use Rattle.std.proofs.lemmas.List.{length-drop, take-append-drop, drop-drop, append-nil}
use Rattle.std.proofs.lemmas.Bool.{eqb-true, le-ltb, ltb-false, or_parts}
use Rattle.byteorder.specs.Endian.{little_bytes, little_number}
use Rattle.byte_fields.specs.Fields.{fields, numbers_in}
use Rattle.byte_fields.specs.Spelling.{IsBytes}
use Rattle.byte_fields.proofs.FieldLemmas.{fields_back}
use Rattle.byte_fields.proofs.NumberLemmas.{IsBytes-drop}
use Rattle.filter_image_model.specs.Header.{Bytes, hash_bits_in, real_bits_in, cutoff_in, height_in, leaf_count_in, dense_count_in, sparse_count_in, label_count_in}
use Rattle.filter_image_model.specs.Sections.{image_head}
use Rattle.filter_image_model.specs.Reading.{bytes_fault, image_head_fault}
use Rattle.byte_fields.proofs.FaultLemmas.{kept, neither, none_of, not_false, passed}

-- the header of the numbers that are read
abbrev pub head_in : Bytes → Bytes
head_in bytes =
    image_head (hash_bits_in bytes) (real_bits_in bytes) (cutoff_in bytes) (height_in bytes) (leaf_count_in bytes) (dense_count_in bytes)
    (sparse_count_in bytes) (label_count_in bytes)

-- what a header that breaks no rule keeps
pub record KeepsHeader (bytes : Bytes) : Type 0 where
  pub long : 40 ≤ length bytes
  pub magic : take 5 bytes ≡ 83 ∷ 85 ∷ 82 ∷ 70 ∷ 1 ∷ []
  pub hash_width : hash_bits_in bytes ≤ 32
  pub real_width : real_bits_in bytes ≤ 32
  pub zero_byte : slice_index bytes 7 ≡ 0
  pub some_height : 0 < height_in bytes
  pub low : height_in bytes ≤ 1024
  pub cutoff : cutoff_in bytes ≤ height_in bytes
  pub some_leaves : 0 < leaf_count_in bytes

wanted : (rule place want : ℕ) (more : List ℕ) (bytes : Bytes) → bytes_fault rule place (want ∷ more) bytes ≡ None
    → (slice_index bytes place ≡ want) × (bytes_fault rule (suc place) more bytes ≡ None)
wanted rule place want more bytes e =
    let parts = kept _ _ _ _ e in (eqb-true (slice_index bytes place) want (not_false _ parts.0), parts.1)

first_five : (bytes : Bytes) → 5 ≤ length bytes
    → take 5 bytes ≡ slice_index bytes 0 ∷ slice_index bytes 1 ∷ slice_index bytes 2 ∷ slice_index bytes 3 ∷ slice_index bytes 4 ∷ []
first_five [] h = absurd (omega arith)
first_five (a ∷ []) h = absurd (omega arith)
first_five (a ∷ b ∷ []) h = absurd (omega arith)
first_five (a ∷ b ∷ c ∷ []) h = absurd (omega arith)
first_five (a ∷ b ∷ c ∷ d ∷ []) h = absurd (omega arith)
first_five (a ∷ b ∷ c ∷ d ∷ e ∷ bytes) h = refl

some : (n : ℕ) → (n == 0) ≡ false → 0 < n
some zero e = absurd cc
some (suc n) e = omega arith

pub header_kept : (bytes : Bytes) → image_head_fault 32 32 bytes ≡ None → KeepsHeader bytes
unfolding image_head_fault
header_kept bytes e =
    let r1 = kept (nat_lt (length bytes) 40) _ _ _ e in
    let r2 = neither (bytes_fault 2 0 (83 ∷ 85 ∷ 82 ∷ 70 ∷ 1 ∷ []) bytes) _ r1.1 in
    let r3 = kept (nat_lt 32 (hash_bits_in bytes)) _ _ _ r2.1 in
    let r4 = kept (nat_lt 32 (real_bits_in bytes)) _ _ _ r3.1 in
    let r5 = neither (bytes_fault 3 7 (0 ∷ []) bytes) _ r4.1 in
    let r6 = kept ((height_in bytes == 0) || nat_lt 1024 (height_in bytes)) _ _ _ r5.1 in
    let r7 = kept (nat_lt (height_in bytes) (cutoff_in bytes)) _ _ _ r6.1 in
    let r8 = kept (leaf_count_in bytes == 0) _ _ _ r7.1 in
    let m0 = wanted 2 0 83 (85 ∷ 82 ∷ 70 ∷ 1 ∷ []) bytes r2.0 in
    let m1 = wanted 2 1 85 (82 ∷ 70 ∷ 1 ∷ []) bytes m0.1 in
    let m2 = wanted 2 2 82 (70 ∷ 1 ∷ []) bytes m1.1 in
    let m3 = wanted 2 3 70 (1 ∷ []) bytes m2.1 in
    let m4 = wanted 2 4 1 [] bytes m3.1 in
    let long : 40 ≤ length bytes = ltb-false (length bytes) 40 r1.0 in
    let tall = or_parts _ _ r6.0 in
    record {
      long = long;
      magic = first_five bytes (omega (arith, long)) ∙ (λ j. m0.0 j ∷ m1.0 j ∷ m2.0 j ∷ m3.0 j ∷ m4.0 j ∷ []);
      hash_width = ltb-false 32 (hash_bits_in bytes) r3.0;
      real_width = ltb-false 32 (real_bits_in bytes) r4.0;
      zero_byte = (wanted 3 7 0 [] bytes r5.0).0;
      some_height = some (height_in bytes) tall.0;
      low = ltb-false 1024 (height_in bytes) tall.1;
      cutoff = ltb-false (height_in bytes) (cutoff_in bytes) r7.0;
      some_leaves = some (leaf_count_in bytes) r8.0;
    }

-- by other most widths, which the widths that are read keep, the header breaks no rule either
pub header_again : (h r g q : ℕ) (bytes : Bytes) → image_head_fault h r bytes ≡ None → hash_bits_in bytes ≤ g → real_bits_in bytes ≤ q → image_head_fault g q bytes ≡ None
unfolding image_head_fault
header_again h r g q bytes e hash real =
    let r1 = kept (nat_lt (length bytes) 40) _ _ _ e in
    let r2 = neither (bytes_fault 2 0 (83 ∷ 85 ∷ 82 ∷ 70 ∷ 1 ∷ []) bytes) _ r1.1 in
    let r3 = kept (nat_lt h (hash_bits_in bytes)) _ _ _ r2.1 in
    let r4 = kept (nat_lt r (real_bits_in bytes)) _ _ _ r3.1 in
    passed (nat_lt (length bytes) 40) _ _ _ r1.0
    (none_of (bytes_fault 2 0 (83 ∷ 85 ∷ 82 ∷ 70 ∷ 1 ∷ []) bytes) _ r2.0
    (passed (nat_lt g (hash_bits_in bytes)) _ _ _ (le-ltb g (hash_bits_in bytes) hash)
    (passed (nat_lt q (real_bits_in bytes)) _ _ _ (le-ltb q (real_bits_in bytes) real) r4.1)))

-- and these widths it keeps
pub widths_kept : (h r : ℕ) (bytes : Bytes) → image_head_fault h r bytes ≡ None → (hash_bits_in bytes ≤ h) × (real_bits_in bytes ≤ r)
unfolding image_head_fault
widths_kept h r bytes e =
    let r1 = kept (nat_lt (length bytes) 40) _ _ _ e in
    let r2 = neither (bytes_fault 2 0 (83 ∷ 85 ∷ 82 ∷ 70 ∷ 1 ∷ []) bytes) _ r1.1 in
    let r3 = kept (nat_lt h (hash_bits_in bytes)) _ _ _ r2.1 in
    let r4 = kept (nat_lt r (real_bits_in bytes)) _ _ _ r3.1 in
    (ltb-false h (hash_bits_in bytes) r3.0, ltb-false r (real_bits_in bytes) r4.0)

-- the numbers behind the first eight bytes
numbers_are : (bytes : Bytes) → numbers_in (2 ∷ 2 ∷ 4 ∷ 8 ∷ 8 ∷ 8 ∷ []) (drop 8 bytes)
    ≡ cutoff_in bytes ∷ height_in bytes ∷ leaf_count_in bytes ∷ dense_count_in bytes ∷ sparse_count_in bytes ∷ label_count_in bytes ∷ []
numbers_are bytes =
    let d2 = drop-drop 2 8 bytes in
    let d4 : drop 2 (drop 2 (drop 8 bytes)) ≡ drop 12 bytes = ap (drop 2) d2 ∙ drop-drop 2 10 bytes in
    let d8 : drop 4 (drop 2 (drop 2 (drop 8 bytes))) ≡ drop 16 bytes = ap (drop 4) d4 ∙ drop-drop 4 12 bytes in
    let d16 : drop 8 (drop 4 (drop 2 (drop 2 (drop 8 bytes)))) ≡ drop 24 bytes = ap (drop 8) d8 ∙ drop-drop 8 16 bytes in
    let d24 : drop 8 (drop 8 (drop 4 (drop 2 (drop 2 (drop 8 bytes))))) ≡ drop 32 bytes = ap (drop 8) d16 ∙ drop-drop 8 24 bytes in
    (λ j. little_number 2 (drop 8 bytes) ∷ little_number 2 (d2 j) ∷ little_number 4 (d4 j) ∷ little_number 8 (d8 j) ∷ little_number 8 (d16 j) ∷ little_number 8 (d24 j) ∷ [])

front : (bytes : Bytes) → 8 ≤ length bytes → take 5 bytes ≡ 83 ∷ 85 ∷ 82 ∷ 70 ∷ 1 ∷ [] → slice_index bytes 7 ≡ 0
    → take 8 bytes ≡ 83 ∷ 85 ∷ 82 ∷ 70 ∷ 1 ∷ hash_bits_in bytes ∷ real_bits_in bytes ∷ 0 ∷ []
front bytes h magic last = go (drop 5 bytes) (omega (arith, length-drop 5 bytes)) refl
  where
    go : (rest : Bytes) → 3 ≤ length rest → rest ≡ drop 5 bytes → take 8 bytes ≡ 83 ∷ 85 ∷ 82 ∷ 70 ∷ 1 ∷ hash_bits_in bytes ∷ real_bits_in bytes ∷ 0 ∷ []
    go [] l e = absurd (omega arith)
    go (a ∷ []) l e = absurd (omega arith)
    go (a ∷ b ∷ []) l e = absurd (omega arith)
    go (a ∷ b ∷ c ∷ rest) l e =
        let whole : bytes ≡ 83 ∷ 85 ∷ 82 ∷ 70 ∷ 1 ∷ a ∷ b ∷ c ∷ rest = sym (take-append-drop 5 bytes) ∙ (λ j. magic j ++ sym e j) in
        let c_is : c ≡ 0 = sym (ap (λ (x : Bytes). slice_index x 7) whole) ∙ last in
        ap (take 8) whole ∙ (λ j. 83 ∷ 85 ∷ 82 ∷ 70 ∷ 1 ∷ slice_index (sym whole j) 5 ∷ slice_index (sym whole j) 6 ∷ c_is j ∷ [])

-- the first forty bytes are the header of their numbers
pub header_is : (bytes : Bytes) → IsBytes bytes → KeepsHeader bytes → take 40 bytes ≡ head_in bytes
header_is bytes h k =
    let long = k.long in
    let fields_are = fields_back (2 ∷ 2 ∷ 4 ∷ 8 ∷ 8 ∷ 8 ∷ []) (drop 8 bytes) (IsBytes-drop 8 bytes h) (omega (arith, length-drop 8 bytes)) in
    take-add 8 32 bytes
    ∙ ap (λ (t : Bytes). t ++ take 32 (drop 8 bytes)) (front bytes (omega arith) k.magic k.zero_byte)
    ∙ ap (λ (t : Bytes). (83 ∷ 85 ∷ 82 ∷ 70 ∷ 1 ∷ hash_bits_in bytes ∷ real_bits_in bytes ∷ 0 ∷ []) ++ t)
    (sym fields_are ∙ ap (fields (2 ∷ 2 ∷ 4 ∷ 8 ∷ 8 ∷ 8 ∷ [])) (numbers_are bytes) ∙ flat)
  where
    flat : fields (2 ∷ 2 ∷ 4 ∷ 8 ∷ 8 ∷ 8 ∷ []) (cutoff_in bytes ∷ height_in bytes ∷ leaf_count_in bytes ∷ dense_count_in bytes ∷ sparse_count_in bytes ∷ label_count_in bytes ∷ [])
        ≡ little_bytes 2 (cutoff_in bytes) ++ little_bytes 2 (height_in bytes) ++ little_bytes 4 (leaf_count_in bytes)
        ++ little_bytes 8 (dense_count_in bytes) ++ little_bytes 8 (sparse_count_in bytes) ++ little_bytes 8 (label_count_in bytes)
    flat = ap (λ (t : Bytes). little_bytes 2 (cutoff_in bytes) ++ little_bytes 2 (height_in bytes) ++ little_bytes 4 (leaf_count_in bytes) ++ little_bytes 8 (dense_count_in bytes) ++ little_bytes 8 (sparse_count_in bytes) ++ t) (append-nil (little_bytes 8 (label_count_in bytes)))
