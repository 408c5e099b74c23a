-- The image of nodes and suffixes keeps the rules on the bytes alone, and is read as it was written.
use Rattle.std.proofs.Common.{◌≡◌, ℕ, ◌+◌, ◌*◌, ◌<◌, ◌≤◌, ◌%◌, Bool, false, List, [], ◌∷◌, ◌++◌, length, take, drop, refl, sym, ap, ◌∙◌, arith, inl, lit<, subst}
use Rattle.std.specs.Prelude.{not, ◌||◌, ◌==◌, nat_lt, None, slice_index, zip, count_by, position}
use Rattle.std.specs.List.{AllByRecursion}
use Rattle.std.specs.Option.{option_map}
use Rattle.std.specs.Int.{div_ceil}
use Rattle.std.proofs.lemmas.List.{length-append}
use Rattle.std.proofs.lemmas.Bool.{eq-eqb, le-ltb, ne_eqb}
use Rattle.bit_model.specs.Packed.{packed, unpacked}
use Rattle.bit_words.proofs.Packing.{length-unpacked}
use Rattle.byteorder.specs.Endian.{little_bytes}
use Rattle.byte_fields.specs.Spelling.{IsBytes}
use Rattle.filter_model.proofs.Fronts.{IsBytes-nil, IsBytes-cons, IsBytes-append}
use Rattle.filter_model.specs.Image.{has_letter, has_child, label_of, dense_labels, dense_children, dense_ends, sparse_labels, sparse_children, sparse_louds}
use Rattle.filter_model.specs.Nodes.{Branch, Node, all}
use Rattle.filter_model.specs.Trie.{END}
use Rattle.trie_laws.proofs.Louds.{louds_count}
use Rattle.trie_laws.specs.Louds.{IsNode}
use Rattle.filter_image_model.specs.Header.{Bytes, cutoff_in, height_in, leaf_count_in, dense_count_in, sparse_count_in, label_count_in, suffix_bits_in, place_after, section_bits, section_place, end_place, section_bytes, section}
use Rattle.filter_image_model.specs.Nodes.{dense_nodes, sparse_nodes, dense_in, sparse_in}
use Rattle.filter_image_model.specs.Reading.{is_stray, begins_clear, image_head_fault, length_fault, padding_fault, stray_fault, louds_fault}
use Rattle.filter_image_model.specs.Sections.{image_head, sections, nodes_image, KeepsBytes, HasRoom, AreReadAgain, SectionsAreReadAgain}
use Rattle.filter_image_model.proofs.Lists.{all_of, length-map}
use Rattle.byte_fields.proofs.FaultLemmas.{passed, not_true}
use Rattle.filter_image_model.proofs.Sections.{section_is}
use Rattle.filter_image_model.proofs.DenseNodes.{dense_again}
use Rattle.filter_image_model.proofs.SparseNodes.{sparse_again}
use Rattle.filter_image_model.proofs.Written.{join}
use Rattle.filter_image_model.proofs.Laid.{IsLaid, laid, widths, bits_again, next_section, first_section, ends_at, padding_clear}
use Rattle.filter_image_model.proofs.Again.{length-rows, length-louds, labels-IsBytes, little-IsBytes, packed-IsBytes, cutoff_again, height_again, leaves_again, dense_again_is, sparse_again_is, labels_again, dense_strays, nowhere_found, begins_set}

-- the bits of the seven sections
abbrev bit_lists : List Node → List Node → List Bool → List (List Bool)
bit_lists dense sparse suffixes =
    dense_labels dense ∷ dense_children dense ∷ dense_ends dense ∷ unpacked 8 (sparse_labels sparse) (8 * length (all sparse))
    ∷ sparse_children sparse ∷ sparse_louds sparse ∷ suffixes ∷ []

labels_packed : (ns : List Node) → AllByRecursion IsNode ns → sparse_labels ns ≡ packed 8 (unpacked 8 (sparse_labels ns) (8 * length (all ns)))
labels_packed ns w =
    let m = length (all ns) in
    let size : length (sparse_labels ns) ≡ m = length-map (λ (b : Branch). label_of b.0) (all ns) in
    let whole : m ≡ div_ceil (8 * m) 8 = omega arith in
    let clear : (8 * m) % 8 ≡ 0 = omega arith in
    section_is (8 * m) (sparse_labels ns) (labels-IsBytes ns w) (size ∙ whole) (inl clear)

sections_laid : (dense sparse : List Node) (suffixes : List Bool) → AllByRecursion IsNode sparse → sections dense sparse suffixes ≡ laid (bit_lists dense sparse suffixes)
unfolding sections
sections_laid dense sparse suffixes w =
    join (packed 8 (dense_labels dense)) (packed 8 (dense_children dense)) (packed 8 (dense_ends dense)) (sparse_labels sparse) (packed 8 (sparse_children sparse)) (packed 8 (sparse_louds sparse)) (packed 8 suffixes)
    ∙ (λ j. packed 8 (dense_labels dense) ++ (packed 8 (dense_children dense) ++ (packed 8 (dense_ends dense) ++ (labels_packed sparse w j ++ (packed 8 (sparse_children sparse) ++ (packed 8 (sparse_louds sparse) ++ (packed 8 suffixes ++ [])))))))

-- the reading of a section, by the widths of all
abbrev section_by : List ℕ → ℕ → Bytes → List Bool
section_by ws n bytes = unpacked 8 (take (div_ceil (slice_index ws n) 8) (drop (place_after 40 (take n ws)) bytes)) (slice_index ws n)

abbrev bytes_by : List ℕ → ℕ → Bytes → Bytes
bytes_by ws n bytes = take (div_ceil (slice_index ws n) 8) (drop (place_after 40 (take n ws)) bytes)

section_is_by : (n : ℕ) (bytes : Bytes) → section n bytes ≡ section_by (section_bits bytes) n bytes
unfolding section section_bytes section_place
section_is_by n bytes = refl

bytes_are_by : (n : ℕ) (bytes : Bytes) → section_bytes n bytes ≡ bytes_by (section_bits bytes) n bytes
unfolding section_bytes section_place
bytes_are_by n bytes = refl

end_is_by : (bytes : Bytes) → end_place bytes ≡ place_after 40 (section_bits bytes)
unfolding section_place section_bits
end_is_by bytes = refl

all-IsBytes : (xs : Bytes) → AllByRecursion (λ c. c < 256) xs → IsBytes xs
all-IsBytes [] w = IsBytes-nil
all-IsBytes (x ∷ xs) w = IsBytes-cons x xs w.0 (all-IsBytes xs w.1)

header-IsBytes : (h r c ht lv d s m : ℕ) → h ≤ 32 → r ≤ 32 → IsBytes (image_head h r c ht lv d s m)
header-IsBytes h r c ht lv d s m hh rr =
    let first : IsBytes (83 ∷ 85 ∷ 82 ∷ 70 ∷ 1 ∷ h ∷ r ∷ 0 ∷ []) =
    all-IsBytes (83 ∷ 85 ∷ 82 ∷ 70 ∷ 1 ∷ h ∷ r ∷ 0 ∷ []) (lit< tt, (lit< tt, (lit< tt, (lit< tt, (lit< tt, (omega (arith, hh), (omega (arith, rr), (lit< tt, tt)))))))) in
    let x1 = 83 ∷ 85 ∷ 82 ∷ 70 ∷ 1 ∷ h ∷ r ∷ 0 ∷ [] in
    let x2 = x1 ++ little_bytes 2 c in
    let x3 = x2 ++ little_bytes 2 ht in
    let x4 = x3 ++ little_bytes 4 lv in
    let x5 = x4 ++ little_bytes 8 d in
    let x6 = x5 ++ little_bytes 8 s in
    IsBytes-append x6 (little_bytes 8 m) (IsBytes-append x5 (little_bytes 8 s) (IsBytes-append x4 (little_bytes 8 d) (IsBytes-append x3 (little_bytes 4 lv)
    (IsBytes-append x2 (little_bytes 2 ht) (IsBytes-append x1 (little_bytes 2 c) first (little-IsBytes 2 c)) (little-IsBytes 2 ht)) (little-IsBytes 4 lv)) (little-IsBytes 8 d)) (little-IsBytes 8 s)) (little-IsBytes 8 m)

laid-IsBytes : (bss : List (List Bool)) → IsBytes (laid bss)
laid-IsBytes [] = IsBytes-nil
laid-IsBytes (bits ∷ bss) = IsBytes-append (packed 8 bits) (laid bss) (packed-IsBytes bits) (laid-IsBytes bss)

false_or : (a b : Bool) → a ≡ false → b ≡ false → (a || b) ≡ false
false_or a b e f = (λ j. e j || f j)

positive : (n : ℕ) → 0 < n → (n == 0) ≡ false
positive n h = ne_eqb n 0 (λ e. omega (arith, e, h))

module _ (h r c ht lv : ℕ) (dense sparse : List Node) (suffixes : List Bool) (room : HasRoom h r c ht lv dense sparse suffixes) where
  abbrev body : Bytes
  body = sections dense sparse suffixes

  abbrev m : ℕ
  m = length (all sparse)

  abbrev bytes : Bytes
  bytes = nodes_image h r c ht lv dense sparse suffixes

  abbrev bss : List (List Bool)
  bss = bit_lists dense sparse suffixes

  cutoff_is : cutoff_in bytes ≡ c
  cutoff_is = cutoff_again h r c ht lv (length dense) (length sparse) m body (omega (arith, room.cutoff_in, room.low))

  height_is : height_in bytes ≡ ht
  height_is = height_again h r c ht lv (length dense) (length sparse) m body (omega (arith, room.low))

  leaves_are : leaf_count_in bytes ≡ lv
  leaves_are = leaves_again h r c ht lv (length dense) (length sparse) m body room.few_leaves

  dense_is : dense_count_in bytes ≡ length dense
  dense_is = dense_again_is h r c ht lv (length dense) (length sparse) m body room.few_dense

  sparse_is : sparse_count_in bytes ≡ length sparse
  sparse_is = sparse_again_is h r c ht lv (length dense) (length sparse) m body room.few_sparse

  labels_are : label_count_in bytes ≡ m
  labels_are = labels_again h r c ht lv (length dense) (length sparse) m body room.few_labels

  suffix_width : suffix_bits_in bytes ≡ h + r
  suffix_width = refl

  laid_out : IsLaid 40 bss bytes
  laid_out = sections_laid dense sparse suffixes room.sparse_nodes

  widths_are : section_bits bytes ≡ widths bss
  unfolding section_bits
  widths_are =
      let dl : 256 * dense_count_in bytes ≡ length (dense_labels dense) = ap (λ n. 256 * n) dense_is ∙ sym (length-rows has_letter dense) in
      let dc : 256 * dense_count_in bytes ≡ length (dense_children dense) = ap (λ n. 256 * n) dense_is ∙ sym (length-rows has_child dense) in
      let de : dense_count_in bytes ≡ length (dense_ends dense) = dense_is ∙ sym (length-map (λ (n : Node). has_letter n END) dense) in
      let sl : 8 * label_count_in bytes ≡ length (unpacked 8 (sparse_labels sparse) (8 * m)) = ap (λ n. 8 * n) labels_are ∙ sym (length-unpacked 8 (sparse_labels sparse) (8 * m)) in
      let sc : label_count_in bytes ≡ length (sparse_children sparse) = labels_are ∙ sym (length-map (λ (b : Branch). b.1) (all sparse)) in
      let so : label_count_in bytes ≡ length (sparse_louds sparse) = labels_are ∙ sym (length-louds sparse) in
      let su : leaf_count_in bytes * suffix_bits_in bytes ≡ length suffixes = ap (λ n. n * (h + r)) leaves_are ∙ sym room.suffix_bits in
      (λ j. dl j ∷ dc j ∷ de j ∷ sl j ∷ sc j ∷ so j ∷ su j ∷ [])

  by_widths : (n : ℕ) → section n bytes ≡ section_by (widths bss) n bytes
  by_widths n = section_is_by n bytes ∙ ap (λ (ws : List ℕ). section_by ws n bytes) widths_are

  rest_1 : IsLaid (place_after 40 (take 1 (widths bss))) (drop 1 bss) bytes
  rest_1 = next_section 40 (dense_labels dense) (drop 1 bss) bytes laid_out

  rest_2 : IsLaid (place_after 40 (take 2 (widths bss))) (drop 2 bss) bytes
  rest_2 = next_section (place_after 40 (take 1 (widths bss))) (dense_children dense) (drop 2 bss) bytes rest_1

  rest_3 : IsLaid (place_after 40 (take 3 (widths bss))) (drop 3 bss) bytes
  rest_3 = next_section (place_after 40 (take 2 (widths bss))) (dense_ends dense) (drop 3 bss) bytes rest_2

  rest_4 : IsLaid (place_after 40 (take 4 (widths bss))) (drop 4 bss) bytes
  rest_4 = next_section (place_after 40 (take 3 (widths bss))) (unpacked 8 (sparse_labels sparse) (8 * m)) (drop 4 bss) bytes rest_3

  rest_5 : IsLaid (place_after 40 (take 5 (widths bss))) (drop 5 bss) bytes
  rest_5 = next_section (place_after 40 (take 4 (widths bss))) (sparse_children sparse) (drop 5 bss) bytes rest_4

  rest_6 : IsLaid (place_after 40 (take 6 (widths bss))) (drop 6 bss) bytes
  rest_6 = next_section (place_after 40 (take 5 (widths bss))) (sparse_louds sparse) (drop 6 bss) bytes rest_5

  section_0 : section 0 bytes ≡ dense_labels dense
  section_0 = by_widths 0 ∙ bits_again 40 (dense_labels dense) (drop 1 bss) bytes laid_out

  section_1 : section 1 bytes ≡ dense_children dense
  section_1 = by_widths 1 ∙ bits_again (place_after 40 (take 1 (widths bss))) (dense_children dense) (drop 2 bss) bytes rest_1

  section_2 : section 2 bytes ≡ dense_ends dense
  section_2 = by_widths 2 ∙ bits_again (place_after 40 (take 2 (widths bss))) (dense_ends dense) (drop 3 bss) bytes rest_2

  section_3 : section_bytes 3 bytes ≡ sparse_labels sparse
  section_3 =
      bytes_are_by 3 bytes ∙ ap (λ (ws : List ℕ). bytes_by ws 3 bytes) widths_are
      ∙ first_section (place_after 40 (take 3 (widths bss))) (unpacked 8 (sparse_labels sparse) (8 * m)) (drop 4 bss) bytes rest_3
      ∙ sym (labels_packed sparse room.sparse_nodes)

  section_4 : section 4 bytes ≡ sparse_children sparse
  section_4 = by_widths 4 ∙ bits_again (place_after 40 (take 4 (widths bss))) (sparse_children sparse) (drop 5 bss) bytes rest_4

  section_5 : section 5 bytes ≡ sparse_louds sparse
  section_5 = by_widths 5 ∙ bits_again (place_after 40 (take 5 (widths bss))) (sparse_louds sparse) (drop 6 bss) bytes rest_5

  section_6 : section 6 bytes ≡ suffixes
  section_6 = by_widths 6 ∙ bits_again (place_after 40 (take 6 (widths bss))) suffixes [] bytes rest_6

  long : 40 ≤ length bytes
  long = omega (arith, length-append (image_head h r c ht lv (length dense) (length sparse) m) body)

  ends : end_place bytes ≡ length bytes
  ends = end_is_by bytes ∙ ap (place_after 40) widths_are ∙ ends_at 40 bss bytes long laid_out

  dense_nodes_are : dense_in bytes ≡ dense
  unfolding dense_in
  dense_nodes_are = (λ j. dense_nodes (section_2 j) (section_0 j) (section_1 j)) ∙ dense_again dense room.dense_nodes

  sparse_nodes_are : sparse_in bytes ≡ sparse
  unfolding sparse_in
  sparse_nodes_are = (λ j. sparse_nodes (section_3 j) (section_4 j) (section_5 j)) ∙ sparse_again sparse room.sparse_nodes

  no_header_fault : image_head_fault 32 32 bytes ≡ None
  unfolding image_head_fault
  no_header_fault =
      passed (nat_lt (length bytes) 40) _ _ _ (le-ltb (length bytes) 40 long)
      (passed (nat_lt 32 h) _ _ _ (le-ltb 32 h room.hash_width)
      (passed (nat_lt 32 r) _ _ _ (le-ltb 32 r room.real_width)
      (passed ((height_in bytes == 0) || nat_lt 1024 (height_in bytes)) _ _ _
      (ap (λ (n : ℕ). (n == 0) || nat_lt 1024 n) height_is ∙ false_or (ht == 0) (nat_lt 1024 ht) (positive ht room.some_height) (le-ltb 1024 ht room.low))
      (passed (nat_lt (height_in bytes) (cutoff_in bytes)) _ _ _
      ((λ j. nat_lt (height_is j) (cutoff_is j)) ∙ le-ltb ht c room.cutoff_in)
      (passed (leaf_count_in bytes == 0) _ _ _ (ap (λ (n : ℕ). n == 0) leaves_are ∙ positive lv room.some_leaves) refl)))))

  no_length_fault : length_fault bytes ≡ None
  unfolding length_fault
  no_length_fault =
      passed (nat_lt (length bytes) (end_place bytes)) _ _ _ (le-ltb (length bytes) (end_place bytes) (omega (arith, ends)))
      (passed (nat_lt (end_place bytes) (length bytes)) _ _ _ (le-ltb (end_place bytes) (length bytes) (omega (arith, ends))) refl)

  no_padding_fault : padding_fault 40 (section_bits bytes) bytes ≡ None
  no_padding_fault = ap (λ (ws : List ℕ). padding_fault 40 ws bytes) widths_are ∙ padding_clear 40 bss bytes laid_out

  no_stray_fault : stray_fault bytes ≡ None
  unfolding stray_fault
  no_stray_fault =
      ap (option_map _) ((λ j. position is_stray (zip (section_0 j) (section_1 j))) ∙ nowhere_found is_stray (zip (dense_labels dense) (dense_children dense)) (dense_strays dense))

  no_louds_fault : louds_fault bytes ≡ None
  unfolding louds_fault
  no_louds_fault =
      passed (not (count_by (λ b. b) (section 5 bytes) == sparse_count_in bytes) || begins_clear (section 5 bytes)) _ _ _
      (false_or _ _ (not_true _ (eq-eqb _ _ (ap (count_by (λ b. b)) section_5 ∙ louds_count sparse (all_of IsNode sparse room.sparse_nodes) ∙ sym sparse_is)))
      (ap begins_clear section_5 ∙ begins_set sparse room.sparse_nodes)) refl

  kept_bytes : KeepsBytes bytes
  kept_bytes = record {
    bytes_are = IsBytes-append (image_head h r c ht lv (length dense) (length sparse) m) body (header-IsBytes h r c ht lv (length dense) (length sparse) m room.hash_width room.real_width)
        (rw (sections_laid dense sparse suffixes room.sparse_nodes) (laid-IsBytes bss));
    header = no_header_fault;
    lengths = no_length_fault;
    padding = no_padding_fault;
    strays = no_stray_fault;
    louds = no_louds_fault;
  }

  read : AreReadAgain h r c ht lv dense sparse suffixes bytes
  read = record {
    hash_is = refl;
    real_is = refl;
    cutoff_is = cutoff_is;
    height_is = height_is;
    leaves_are = leaves_are;
    dense_are = dense_nodes_are;
    sparse_are = sparse_nodes_are;
    suffixes_are = section_6;
  }

  pub both : KeepsBytes bytes × AreReadAgain h r c ht lv dense sparse suffixes bytes
  both = (kept_bytes, read)

pub sections_again : SectionsAreReadAgain
sections_again h r c ht lv dense sparse suffixes given room e =
    subst (λ (b : Bytes). KeepsBytes b × AreReadAgain h r c ht lv dense sparse suffixes b) (sym e) (both h r c ht lv dense sparse suffixes room)
