-- The parts of a trie, put together.
use Rattle.std.proofs.Common.{◌≡◌, ℕ, zero, suc, ◌+◌, ◌*◌, ◌/◌, ◌<◌, ◌≤◌, ◌^◌, ◌∙◌, refl, sym, ap, subst, arith, length, Bool, true, List, [], ◌∷◌}
use Rattle.std.specs.Prelude.{◌==◌, ◌||◌, drop, not, Result, Ok, Err, IfErr, None}
use Rattle.std.specs.Int.{div_ceil}
use Rattle.std.specs.List.{All}
use Rattle.std.specs.Result.{IsErrAnd}
use Rattle.std.proofs.Math.Nat.{mul-le-mul_left}
use Rattle.std.proofs.lemmas.List.{length-drop}
use Rattle.std.proofs.lemmas.Bool.{eqb-true, false≢true, or_parts}
use Rattle.byte_fields.proofs.FaultLemmas.{kept, not_false}
use Rattle.byte_fields.proofs.NumberLemmas.{IsBytes-drop, number_below}
use Rattle.byte_fields.specs.Spelling.{IsBytes}
use Rattle.filter_codec.proofs.Judged.{array_in, image_is, is_image, nodes_same, of_trie, suffixes_at}
use Rattle.filter_api.specs.declared.errors.DecodeError.{DecodeError}
use Rattle.filter_api.specs.declared.errors.DecodeError.TheVariants.{Memory}
use Rattle.filter_codec.proofs.Within.{any_trie}
use Rattle.filter_codec.specs.Decoding.{AreOfTrie, IsCauseBy, KeepsSections}
use Rattle.filter_codec.specs.Judging.{header_in, image_end, places_by}
use Rattle.filter_codec.specs.Rules.{nodes_rule}
use Rattle.filter_codec.specs.Tree.{AreSparse, Tree, counts_rule, louds_rule}
use Rattle.filter_codec.specs.declared.header.Header.{Header}
use Rattle.filter_codec.specs.declared.header.Places.{Places}
use Rattle.filter_image_model.proofs.Headers.{KeepsHeader, header_kept}
use Rattle.filter_image_model.specs.Header.{Bytes, cutoff_in, height_in, leaf_count_in, section, sparse_count_in}
use Rattle.filter_image_model.specs.Kinds.{IsKind, Kind}
use Rattle.filter_image_model.specs.Laws.{IsImageBy}
use Rattle.filter_image_model.specs.Levels.{are_levels, leaf_count_of, nodes_above}
use Rattle.filter_image_model.specs.Nodes.{dense_in, sparse_in, sparse_nodes}
use Rattle.filter_model.specs.Leaves.{Filter}
use Rattle.filter_image_model.specs.Reading.{fault_by, image_head_fault, louds_fault, nodes_rules}
use Rattle.filter_image_model.specs.Sections.{KeepsBytes}
use Rattle.filter_model.specs.Nodes.{Node}
use Rattle.filter_trie.specs.Parts.{AreParts, image_by}
use Rattle.louds_dense.specs.Places.{counts_of}
use Rattle.louds_sparse.specs.Spelling.{AreFew, IsSpelled, half_in}
use Rattle.suffix_bits.proofs.Packing as packing
use Rattle.suffix_bits.specs.Slots.{SuffixArray, unpacked_suffixes}
use Rattle.trie_laws.specs.Halves.{second_half}
use Rattle.trie_laws.specs.Nodes.{IsTrieNode}
use Rattle.trie_model.specs.Halves.{Half}
use Rattle.trie_model.specs.declared.parts.Before.{Before}

-- ---- halves

module _ (before : Before) (labels : List ℕ) (children louds : List Bool) where
  pub sparse_half : AreSparse labels children louds (sparse_nodes labels children louds) → All IsTrieNode (sparse_nodes labels children louds) → AreFew before
      → IsSpelled before labels children louds (half_in before labels children louds)
  unfolding half_in
  sparse_half s nodes few = record {
    before_is = refl;
    labels_are = s.labels_are;
    children_are = s.children_are;
    louds_are = s.louds_are;
    nodes = nodes;
    few = few;
    short = s.short;
  }

  pub half_is : (ds ss : List Node) → before ≡ counts_of ds → sparse_nodes labels children louds ≡ ss → half_in before labels children louds ≡ second_half ds ss
  unfolding half_in
  half_is ds ss e f = λ j. record { before = e j; nodes = f j }

pub parts_by : (cutoff height : ℕ) (d ds ss : List Node) (h : Half) (array : SuffixArray) → d ≡ ds → h ≡ second_half ds ss
    → AreParts (image_by cutoff height ds ss array) cutoff height ds (second_half ds ss) array → AreParts (image_by cutoff height d h.nodes array) cutoff height d h array
parts_by cutoff height d ds ss h array e f p =
    subst (λ (h : Half). AreParts (image_by cutoff height d h.nodes array) cutoff height d h array) (sym f)
    (subst (λ (d : List Node). AreParts (image_by cutoff height d ss array) cutoff height d (second_half ds ss) array) (sym e) p)

-- ---- levels

pub some_nodes : (height : ℕ) (ns : List Node) → 0 < height → are_levels height 1 ns ≡ true → 0 < length ns
some_nodes zero ns pos e = absurd (omega (arith, pos))
some_nodes (suc n) [] pos e = absurd (false≢true e)
some_nodes (suc n) (m ∷ ns) pos e = omega arith

pub counted : (height cutoff dense leaves : ℕ) (ns : List Node) → counts_rule height cutoff dense leaves ns ≡ None → (are_levels height 1 ns ≡ true) × (leaf_count_of ns ≡ leaves)
counted height cutoff dense leaves ns e =
    let r = or_parts (not (are_levels height 1 ns) || not (nodes_above cutoff 1 ns == dense)) (not (leaf_count_of ns == leaves)) (kept _ _ _ _ e).0 in
    let s = or_parts (not (are_levels height 1 ns)) (not (nodes_above cutoff 1 ns == dense)) r.0 in
    (not_false _ s.0, eqb-true _ _ (not_false _ r.1))

-- ---- what is judged, by a header, places, bits and nodes

pub louds_same : (bytes : Bytes) (louds : List Bool) (sparse : ℕ) → louds ≡ section 5 bytes → sparse ≡ sparse_count_in bytes → louds_rule louds sparse ≡ louds_fault bytes
unfolding louds_fault
louds_same bytes louds sparse e f = λ j. louds_rule (e j) (f j)

pub keeps : (k : Kind) (bytes : Bytes) → IsKind k → KeepsSections k bytes → louds_fault bytes ≡ None → KeepsBytes bytes
keeps k bytes kind s e = record { bytes_are = s.bytes_are; header = any_trie k bytes kind s.header; lengths = s.lengths; padding = s.padding; strays = s.strays; louds = e }

pub head_kept : (k : Kind) (bytes : Bytes) → IsKind k → image_head_fault k.hash_bits k.real_bits bytes ≡ None → KeepsHeader bytes
head_kept k bytes kind e = header_kept bytes (any_trie k bytes kind e)

abbrev pub array_from : Header → List Bool → ℕ → SuffixArray
array_from h bits count = record { hash_bits = h.hash_bits; real_bits = h.real_bits; slots = unpacked_suffixes h.hash_bits h.real_bits bits count }

abbrev pub array_of : Header → List Bool → SuffixArray
array_of h bits = array_from h bits h.leaves

abbrev pub tree_in : Bytes → Tree
tree_in bytes = record { dense = dense_in bytes; sparse = sparse_in bytes }

module _ (k : Kind) (bytes : Bytes) (h : Header) (is : h ≡ header_in bytes) where
  pub array_by : (bits : List Bool) → bits ≡ section 6 bytes → array_of h bits ≡ array_in bytes
  array_by bits e = λ j. array_of (is j) (e j)

  module _ (p : Places) (places : p ≡ places_by h) (array : SuffixArray) (array_is : array ≡ array_in bytes) (t : Tree) (tree_is : t ≡ tree_in bytes) where
    pub rule_by : nodes_rule k.alone h.height h.cutoff h.leaves p.suffixes array t.dense t.sparse ≡ nodes_rules k.alone bytes (dense_in bytes) (sparse_in bytes)
    rule_by =
        (λ j. nodes_rule k.alone (is j).height (is j).cutoff (is j).leaves ((places ∙ ap places_by is) j).suffixes (array_is j) (tree_is j).dense (tree_is j).sparse)
        ∙ nodes_same k.alone bytes (places_by (header_in bytes)).suffixes (suffixes_at bytes)

    pub trie_by : IsKind k → IsBytes bytes → fault_by k bytes ≡ None → AreOfTrie h.height h.cutoff t.dense t.sparse array
    trie_by kind are none =
        subst (λ (h : Header). AreOfTrie h.height h.cutoff t.dense t.sparse array) (sym is)
        (subst (λ (t : Tree). AreOfTrie (height_in bytes) (cutoff_in bytes) t.dense t.sparse array) (sym tree_is)
        (subst (λ (a : SuffixArray). AreOfTrie (height_in bytes) (cutoff_in bytes) (dense_in bytes) (sparse_in bytes) a) (sym array_is) (of_trie k bytes kind are none)))

    pub read_by : IsKind k → IsBytes bytes → fault_by k bytes ≡ None → (i : Filter) → i ≡ image_by h.cutoff h.height t.dense t.sparse array → IsImageBy k i bytes
    read_by kind are none i e =
        let read : i ≡ image_by (cutoff_in bytes) (height_in bytes) (dense_in bytes) (sparse_in bytes) (array_in bytes) =
        e ∙ (λ j. image_by (is j).cutoff (is j).height (tree_is j).dense (tree_is j).sparse (array_is j)) in
        subst (λ (i : Filter). IsImageBy k i bytes) (sym (read ∙ image_is k bytes kind are none)) (is_image k bytes kind are none)

-- ---- numbers that fit

pub few_leaves : (bytes : Bytes) → IsBytes bytes → 40 ≤ length bytes → leaf_count_in bytes < 2 ^ 32
few_leaves bytes are long = omega (arith, number_below 4 (drop 12 bytes) (IsBytes-drop 12 bytes are) (omega (arith, length-drop 12 bytes, long)))

pub product_fits : (n w : ℕ) → n < 2 ^ 32 → w ≤ 64 → n * w < 2 ^ 39
product_fits n w few low = omega (arith, mul-le-mul_left n low, few)

module _ (h : Header) (bits : List Bool) (array : SuffixArray) (e : array ≡ array_of h bits) where
  pub count_is : length array.slots ≡ h.leaves
  count_is = ap (λ (a : SuffixArray). length a.slots) e ∙ packing.length-unpacked h.hash_bits h.real_bits bits h.leaves

  size_is : length array.slots * (array.hash_bits + array.real_bits) ≡ h.leaves * (h.hash_bits + h.real_bits)
  size_is = λ j. count_is j * ((e j).hash_bits + (e j).real_bits)

  pub place_fits : (p : Places) → p ≡ places_by h → image_end h < 2 ^ 64 → p.suffixes + length array.slots * (array.hash_bits + array.real_bits) / 8 < 2 ^ 64
  place_fits p places fits = omega (arith, size_is, subst (λ n. n < 2 ^ 64) (ends p places) fits)
    where
      ends : (p : Places) → p ≡ places_by h → image_end h ≡ p.suffixes + div_ceil (h.leaves * (h.hash_bits + h.real_bits)) 8
      ends p e = ap (λ (p : Places). p.suffixes + div_ceil (h.leaves * (h.hash_bits + h.real_bits)) 8) (sym e)

  pub size_fits : h.leaves < 2 ^ 32 → h.hash_bits ≤ 32 → h.real_bits ≤ 32 → length array.slots * (array.hash_bits + array.real_bits) < 2 ^ 64
  size_fits few hash real = omega (arith, size_is, product_fits h.leaves (h.hash_bits + h.real_bits) few (omega (arith, hash, real)))

-- ---- want of memory

pub out_of_memory : {T : Type 0} (k : Kind) (bytes : Bytes) (result : Result T DecodeError) → IsErrAnd result (λ e. e ≡ Memory) → IfErr result (IsCauseBy k bytes)
out_of_memory k bytes (Ok value) is = absurd is
out_of_memory k bytes (Err e) is = subst (IsCauseBy k bytes) (sym is) tt
