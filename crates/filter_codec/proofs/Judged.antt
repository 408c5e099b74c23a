-- The rules by the numbers that the code has are those by the bytes, and what is read where none is broken.
use Rattle.std.proofs.Common.{◌≡◌, ℕ, zero, suc, ◌+◌, ◌*◌, ◌/◌, ◌^◌, ◌≤◌, ◌∙◌, refl, sym, ap, subst, arith, length, take, drop, Bool, List, [], ◌∷◌, ◌++◌, map, inl, inr}
use Rattle.std.specs.Option.{option_or}
use Rattle.std.specs.Prelude.{◌==◌, ◌&&◌, ◌||◌, not, Option, Some, None}
use Rattle.std.specs.Int.{div_ceil}
use Rattle.std.specs.List.{All, range_with_len}
use Rattle.std.proofs.Math.Nat.{div-eq_of_lt, mul-le-mul_right, mul_comm}
use Rattle.std.proofs.lemmas.Nat.{pow_pos}
use Rattle.std.proofs.lemmas.Bool.{cases_lt}
use Rattle.std.proofs.lemmas.List.Elements.{All-drop}
use Rattle.std.proofs.lemmas.List.{drop_all, drop_at, get_or_past, take_at}
use Rattle.bit_model.specs.Numbers.{number_at}
use Rattle.bit_model.specs.Packed.{number_of}
use Rattle.byte_fields.specs.Faults.{Fault, refuse}
use Rattle.byte_fields.specs.Spelling.{IsBytes}
use Rattle.filter_api.specs.declared.errors.FilterFault.{FilterFault}
use Rattle.filter_codec.proofs.Within.{Within, from_length, from_louds, from_padding, from_strays, place_within}
use Rattle.filter_codec.specs.Decoding.{AreOfTrie, IsFirstFaultBy, KeepsSections}
use Rattle.filter_codec.specs.Judging.{header_in, places_by, seen}
use Rattle.filter_codec.specs.Rules.{ends_rule, labels_place, nodes_rule, real_in_slot, shape_rule}
use Rattle.filter_codec.specs.Tree.{counts_rule}
use Rattle.filter_image_model.proofs.ImageRead.{read_again_by, trie_by}
use Rattle.filter_image_model.proofs.ImageTrie.{read_trie, rules_kept}
use Rattle.filter_image_model.proofs.ImageWritten.{length_6, suffixes_are}
use Rattle.filter_image_model.proofs.Validity.{written_by}
use Rattle.filter_image_model.proofs.Written.{dense_count}
use Rattle.filter_image_model.specs.Header.{Bytes, cutoff_in, dense_count_in, hash_bits_in, height_in, label_count_in, leaf_count_in, real_bits_in, section, section_bits, section_place, suffix_bits_in}
use Rattle.filter_image_model.specs.Kinds.{IsKind, Kind, leaves_beside, leaves_under}
use Rattle.filter_image_model.specs.Laws.{IsImageBy}
use Rattle.filter_image_model.specs.Levels.{are_levels, leaf_count_of, leaves_behind, levels_from, nodes_above, root_leaves}
use Rattle.filter_image_model.specs.Nodes.{dense_in, sparse_in}
use Rattle.filter_image_model.specs.Reading.{counts_fault, ends_fault, fault_by, image_head_fault, image_in, is_no_root, leaves_in, length_fault, louds_fault, nodes_fault, nodes_rules, padding_fault, shape_fault, slot_letters, slot_suffix, stray_fault}
use Rattle.filter_model.specs.Leaves.{Leaf}
use Rattle.filter_model.specs.Nodes.{trie_of}
use Rattle.filter_model.specs.Trie.{END, nodes_to}
use Rattle.filter_trie.specs.Parts.{AreParts, image_by, leaves_by, lower, upper}
use Rattle.suffix_bits.proofs.Packing as packing
use Rattle.suffix_bits.specs.Slots.{Suffix, SuffixArray, array_bits, unpacked_suffixes}
use Rattle.trie_laws.proofs.Forms.{trie_nodes_have_form}
use Rattle.trie_laws.specs.Halves.{second_half}
use Rattle.trie_laws.specs.Nodes.{IsTrieNode}
use Rattle.trie_levels.proofs.Totals.{valid_lists_have_tries}

-- the suffixes that are read
abbrev pub array_in : Bytes → SuffixArray
array_in bytes =
    record { hash_bits = hash_bits_in bytes; real_bits = real_bits_in bytes; slots = unpacked_suffixes (hash_bits_in bytes) (real_bits_in bytes) (section 6 bytes) (leaf_count_in bytes) }

-- ---- rule 10

turned : (w slot : ℕ) → w * slot ≡ slot * w
turned w slot = mul_comm w slot

no_number : (w : ℕ) → number_of (take w []) ≡ 0
no_number zero = refl
no_number (suc w) = refl

none_behind : (n w slot : ℕ) → n ≤ slot → n * w ≤ slot * w
none_behind n w slot le = mul-le-mul_right w le

zero_over : (h : ℕ) → 0 / 2 ^ h ≡ 0
zero_over h = div-eq_of_lt (pow_pos h)

real_is : (bytes : Bytes) (slot : ℕ) → real_in_slot (array_in bytes) slot ≡ slot_suffix bytes slot / 2 ^ hash_bits_in bytes
unfolding slot_suffix
real_is bytes slot =
    let h = hash_bits_in bytes in
    let r = real_bits_in bytes in
    let n = leaf_count_in bytes in
    let bits = section 6 bytes in
    elim (cases_lt slot n) [
      | inl here ↦
          ap (λ (s : Suffix). s.1) (packing.get_or-unpacked h r bits n slot (0, 0) here)
          ∙ ap (λ k. number_at bits k (h + r) / 2 ^ h) (turned (h + r) slot)
      | inr past ↦
          ap (λ (s : Suffix). s.1) (get_or_past (unpacked_suffixes h r bits n) slot (0, 0) (omega (arith, packing.length-unpacked h r bits n, past)))
          ∙ sym (ap (λ (xs : List Bool). number_of (take (h + r) xs) / 2 ^ h) (drop_all (slot * (h + r)) bits (omega (arith, length_6 bytes, none_behind n (h + r) slot past)))
          ∙ ap (λ k. k / 2 ^ h) (no_number (h + r)) ∙ zero_over h)
    ]

pub ends_same : (bytes : Bytes) (place slot : ℕ) (cs : List ℕ) → place ≡ section_place 6 bytes → ends_rule place (array_in bytes) slot cs ≡ ends_fault bytes slot cs
unfolding ends_fault
ends_same bytes place slot [] e = refl
ends_same bytes place slot (c ∷ cs) e =
    λ j. refuse ((c == END) && not (real_is bytes slot j == 0)) (e j + slot * suffix_bits_in bytes / 8) 10 (ends_same bytes place (suc slot) cs e j)

-- ---- rule 9

place_of : (d : ℕ) → 40 + 64 * d + div_ceil d 8 ≡ 40 + div_ceil (256 * d) 8 + div_ceil (256 * d) 8 + div_ceil d 8
place_of d = omega arith

labels_at : (bytes : Bytes) → labels_place (length (dense_in bytes)) ≡ section_place 3 bytes
unfolding section_place section_bits
labels_at bytes = ap labels_place (dense_count bytes) ∙ place_of (dense_count_in bytes)

shape_same : (alone : Bool) (bytes : Bytes)
    → shape_rule (height_in bytes) (leaves_under alone (leaf_count_in bytes)) (leaves_beside alone (leaf_count_in bytes)) (dense_in bytes) (sparse_in bytes)
    ≡ shape_fault alone bytes (dense_in bytes) (sparse_in bytes)
unfolding shape_fault
shape_same alone bytes =
    let L = leaves_beside alone (leaf_count_in bytes) in
    λ j. refuse (is_no_root (height_in bytes) (leaves_under alone (leaf_count_in bytes)) (dense_in bytes ++ sparse_in bytes)) 40 9
    (option_or (nodes_fault (λ n. 32) L 40 (dense_in bytes)) (nodes_fault length L (labels_at bytes j) (sparse_in bytes)))

-- ---- rule 8

counts_same : (bytes : Bytes) → counts_rule (height_in bytes) (cutoff_in bytes) (length (dense_in bytes)) (leaf_count_in bytes) (dense_in bytes ++ sparse_in bytes)
    ≡ counts_fault bytes (dense_in bytes ++ sparse_in bytes)
unfolding counts_fault
counts_same bytes =
    let ns = dense_in bytes ++ sparse_in bytes in
    ap (λ d. refuse (not (are_levels (height_in bytes) 1 ns) || not (nodes_above (cutoff_in bytes) 1 ns == d) || not (leaf_count_of ns == leaf_count_in bytes)) 8 8 None) (dense_count bytes)

-- ---- all

pub nodes_same : (alone : Bool) (bytes : Bytes) (place : ℕ) → place ≡ section_place 6 bytes
    → nodes_rule alone (height_in bytes) (cutoff_in bytes) (leaf_count_in bytes) place (array_in bytes) (dense_in bytes) (sparse_in bytes)
    ≡ nodes_rules alone bytes (dense_in bytes) (sparse_in bytes)
unfolding nodes_rules
nodes_same alone bytes place e =
    λ j. option_or (counts_same bytes j) (option_or (shape_same alone bytes j) (ends_same bytes place 0 (slot_letters (dense_in bytes ++ sparse_in bytes)) e j))

pub suffixes_at : (bytes : Bytes) → (places_by (header_in bytes)).suffixes ≡ section_place 6 bytes
unfolding section_place section_bits
suffixes_at bytes = sum_of (dense_count_in bytes) (label_count_in bytes)
  where
    sum_of : (d l : ℕ) → 40 + 64 * d + div_ceil d 8 + l + 2 * div_ceil l 8
        ≡ 40 + div_ceil (256 * d) 8 + div_ceil (256 * d) 8 + div_ceil d 8 + div_ceil (8 * l) 8 + div_ceil l 8 + div_ceil l 8
    sum_of d l = omega arith

-- ---- the first fault

pub no_image : (k : Kind) (bytes : Bytes) (f : FilterFault) → IsKind k → IsBytes bytes → fault_by k bytes ≡ Some (seen f) → IsFirstFaultBy k bytes f
no_image k bytes f kind are e = record {
  no_image = λ i spelled.
      let none : fault_by k bytes ≡ None = (read_again_by k i bytes kind spelled).0 in
      let wrong : None ≡ Some (seen f) = sym none ∙ e in
      cc;
  first = e;
  place = subst (Within (length bytes)) e (place_within k bytes kind are);
}

next : (a b : Option Fault) → a ≡ None → option_or a b ≡ b
next a b e = ap (λ (x : Option Fault). option_or x b) e

found : (a b : Option Fault) (f : Fault) → Some f ≡ a → option_or a b ≡ Some f
found a b f e = ap (λ (x : Option Fault). option_or x b) (sym e)

module _ (k : Kind) (bytes : Bytes) (kind : IsKind k) (are : IsBytes bytes) where
  abbrev pub head : Option Fault
  head = image_head_fault k.hash_bits k.real_bits bytes

  -- behind rules that are kept
  behind_head : head ≡ None → fault_by k bytes ≡ from_length k.alone bytes
  unfolding fault_by
  behind_head e = next head (from_length k.alone bytes) e

  behind_length : head ≡ None → length_fault bytes ≡ None → fault_by k bytes ≡ from_padding k.alone bytes
  behind_length e f = behind_head e ∙ next (length_fault bytes) (from_padding k.alone bytes) f

  behind_padding : head ≡ None → length_fault bytes ≡ None → padding_fault 40 (section_bits bytes) bytes ≡ None → fault_by k bytes ≡ from_strays k.alone bytes
  behind_padding e f g = behind_length e f ∙ next (padding_fault 40 (section_bits bytes) bytes) (from_strays k.alone bytes) g

  behind_strays : KeepsSections k bytes → fault_by k bytes ≡ from_louds k.alone bytes
  behind_strays kept = behind_padding kept.header kept.lengths kept.padding ∙ next (stray_fault bytes) (from_louds k.alone bytes) kept.strays

  nodes_left : KeepsSections k bytes → louds_fault bytes ≡ None → fault_by k bytes ≡ nodes_rules k.alone bytes (dense_in bytes) (sparse_in bytes)
  nodes_left kept e = behind_strays kept ∙ next (louds_fault bytes) (nodes_rules k.alone bytes (dense_in bytes) (sparse_in bytes)) e

  pub at_head : (f : FilterFault) → Some (seen f) ≡ head → IsFirstFaultBy k bytes f
  unfolding fault_by
  at_head f e = no_image k bytes f kind are (found head (from_length k.alone bytes) (seen f) e)

  pub at_length : (f : FilterFault) → head ≡ None → Some (seen f) ≡ length_fault bytes → IsFirstFaultBy k bytes f
  at_length f a e = no_image k bytes f kind are (behind_head a ∙ found (length_fault bytes) (from_padding k.alone bytes) (seen f) e)

  pub at_padding : (f : FilterFault) → head ≡ None → length_fault bytes ≡ None → Some (seen f) ≡ padding_fault 40 (section_bits bytes) bytes → IsFirstFaultBy k bytes f
  at_padding f a b e = no_image k bytes f kind are (behind_length a b ∙ found (padding_fault 40 (section_bits bytes) bytes) (from_strays k.alone bytes) (seen f) e)

  pub at_strays : (f : FilterFault) → head ≡ None → length_fault bytes ≡ None → padding_fault 40 (section_bits bytes) bytes ≡ None → Some (seen f) ≡ stray_fault bytes → IsFirstFaultBy k bytes f
  at_strays f a b c e = no_image k bytes f kind are (behind_padding a b c ∙ found (stray_fault bytes) (from_louds k.alone bytes) (seen f) e)

  pub at_louds : (f : FilterFault) → KeepsSections k bytes → Some (seen f) ≡ louds_fault bytes → IsFirstFaultBy k bytes f
  at_louds f kept e = no_image k bytes f kind are (behind_strays kept ∙ found (louds_fault bytes) (nodes_rules k.alone bytes (dense_in bytes) (sparse_in bytes)) (seen f) e)

  pub at_nodes : (f : FilterFault) → KeepsSections k bytes → louds_fault bytes ≡ None → Some (seen f) ≡ nodes_rules k.alone bytes (dense_in bytes) (sparse_in bytes) → IsFirstFaultBy k bytes f
  at_nodes f kept e nodes = no_image k bytes f kind are (nodes_left kept e ∙ sym nodes)

  pub none_broken : KeepsSections k bytes → louds_fault bytes ≡ None → None ≡ nodes_rules k.alone bytes (dense_in bytes) (sparse_in bytes) → fault_by k bytes ≡ None
  none_broken kept e nodes = nodes_left kept e ∙ sym nodes

-- ---- what is read

module _ (k : Kind) (bytes : Bytes) (kind : IsKind k) (are : IsBytes bytes) (none : fault_by k bytes ≡ None) where
  pub is_image : IsImageBy k (image_in bytes) bytes
  is_image = written_by k bytes kind are none

  bits_are : array_bits (array_in bytes) ≡ section 6 bytes
  bits_are = packing.packed-unpacked (hash_bits_in bytes) (real_bits_in bytes) (section 6 bytes) (leaf_count_in bytes) (length_6 bytes ∙ sym (turned (suffix_bits_in bytes) (leaf_count_in bytes)))

  leaves_are : leaves_by (height_in bytes) (dense_in bytes ++ sparse_in bytes) (array_in bytes) ≡ leaves_in bytes
  unfolding leaves_by leaves_in slot_suffix
  leaves_are =
      let w = suffix_bits_in bytes in
      λ j. root_leaves (leaves_behind (hash_bits_in bytes) (levels_from (height_in bytes) 1 (dense_in bytes ++ sparse_in bytes))
      (map (λ slot. number_at (bits_are j) (slot * w) w) (range_with_len 0 (packing.length-unpacked (hash_bits_in bytes) (real_bits_in bytes) (section 6 bytes) (leaf_count_in bytes) j))))

  pub image_is : image_by (cutoff_in bytes) (height_in bytes) (dense_in bytes) (sparse_in bytes) (array_in bytes) ≡ image_in bytes
  unfolding image_by image_in
  image_is = λ j. record { hash_bits = hash_bits_in bytes; real_bits = real_bits_in bytes; cutoff = cutoff_in bytes; leaves = leaves_are j }

  abbrev leaves : List Leaf
  leaves = leaves_in bytes

  abbrev above : ℕ
  above = length (nodes_to leaves (cutoff_in bytes))

  upper_is : upper (cutoff_in bytes) leaves ≡ dense_in bytes
  upper_is = let t = read_trie bytes (rules_kept k bytes kind are none) in ap (take above) t.trie ∙ take_at (dense_in bytes) (sparse_in bytes) above (sym t.below)

  lower_is : lower (cutoff_in bytes) leaves ≡ sparse_in bytes
  lower_is = let t = read_trie bytes (rules_kept k bytes kind are none) in ap (drop above) t.trie ∙ drop_at (dense_in bytes) (sparse_in bytes) above (sym t.below)

  parts_are : AreParts (image_in bytes) (cutoff_in bytes) (height_in bytes) (dense_in bytes) (second_half (dense_in bytes) (sparse_in bytes)) (array_in bytes)
  unfolding image_in
  parts_are =
      let kept = rules_kept k bytes kind are none in
      let t = read_trie bytes kept in
      record {
        may_stand = trie_by k kind (hash_bits_in bytes) (real_bits_in bytes) (cutoff_in bytes) leaves is_image.may_stand;
        cutoff_is = refl;
        levels_are = sym t.height_is;
        dense_is = sym upper_is;
        sparse_is = λ j. second_half (sym upper_is j) (sym lower_is j);
        hash_bits_are = refl;
        real_bits_are = refl;
        count_is = packing.length-unpacked (hash_bits_in bytes) (real_bits_in bytes) (section 6 bytes) (leaf_count_in bytes) ∙ sym t.count;
        suffixes_are = bits_are ∙ sym (suffixes_are bytes kept);
      }

  sparse_form : All IsTrieNode (sparse_in bytes)
  unfolding image_in
  sparse_form =
      let t = read_trie bytes (rules_kept k bytes kind are none) in
      let has = valid_lists_have_tries (hash_bits_in bytes) (real_bits_in bytes) leaves is_image.may_stand.listed in
      subst (All IsTrieNode) lower_is (All-drop IsTrieNode above (trie_of leaves) (trie_nodes_have_form leaves has))

  pub of_trie : AreOfTrie (height_in bytes) (cutoff_in bytes) (dense_in bytes) (sparse_in bytes) (array_in bytes)
  of_trie = record {
    nodes = sparse_form;
    parts = subst (λ i. AreParts i (cutoff_in bytes) (height_in bytes) (dense_in bytes) (second_half (dense_in bytes) (sparse_in bytes)) (array_in bytes)) (sym image_is) parts_are;
  }
