-- The sections of bytes that break no rule on the bytes alone spell the nodes that are read.
use Rattle.std.proofs.Common.{◌≡◌, ℕ, ◌<◌, ◌≤◌, ◌+◌, ◌*◌, ◌^◌, ◌∙◌, refl, sym, ap, subst, arith, length, take, drop, Bool, true, false, cond, List, [], ◌∷◌, ◌++◌, map}
use Rattle.std.specs.Prelude.{◌==◌, ◌/◌, None, position, zip}
use Rattle.std.specs.Int.{div_ceil}
use Rattle.std.specs.Option.{option_map}
use Rattle.std.specs.List.{All, AllByRecursion}
use Rattle.std.proofs.lemmas.Bool.{eqb-false}
use Rattle.std.proofs.lemmas.List.{length-drop, length-take-le}
use Rattle.bit_words.proofs.Packing.{length-unpacked}
use Rattle.bit_model.specs.Packed.{unpacked}
use Rattle.byte_fields.specs.Faults.{fault}
use Rattle.filter_codec.proofs.Numbers.{ends_there}
use Rattle.filter_codec.specs.Judging.{header_in, image_end, stray_rule}
use Rattle.filter_codec.specs.Tree.{AreSparse, Tree}
use Rattle.filter_codec.specs.declared.header.Header.{Header}
use Rattle.filter_image_model.proofs.DenseNodes.{dense_are}
use Rattle.filter_image_model.proofs.Lists.{all_of}
use Rattle.filter_image_model.proofs.SparseNodes.{AreBytes, bytes_each, cut_joins, cut_none, length-zip, zip_bytes}
use Rattle.filter_image_model.proofs.Written.{dense_count, dense_spelled, label_lengths, label_values, louds_kept, sparse_spelled, whole_length}
use Rattle.filter_image_model.specs.Header.{Bytes, dense_count_in, label_count_in, leaf_count_in, section, section_bits, section_bytes, section_place, suffix_bits_in}
use Rattle.filter_image_model.specs.Nodes.{cut_nodes, dense_in, named, sparse_in, sparse_nodes}
use Rattle.filter_image_model.specs.Reading.{is_stray, length_fault, stray_fault}
use Rattle.filter_image_model.specs.Sections.{KeepsBytes}
use Rattle.filter_model.specs.Nodes.{Branch, Node, all}
use Rattle.filter_model.specs.Trie.{END}
use Rattle.louds_dense.specs.Spelling.{IsSpelled, nodes_in}
use Rattle.trie_laws.specs.Louds.{IsNode}

pub whole : (bytes : Bytes) → length_fault bytes ≡ None → image_end (header_in bytes) ≡ length bytes
whole bytes e = sym (ends_there bytes) ∙ whole_length bytes e

-- ---- sections

enough : (bits place : ℕ) (bytes : Bytes) → place + div_ceil bits 8 ≤ length bytes → bits ≤ 8 * length (take (div_ceil bits 8) (drop place bytes))
enough bits place bytes le = omega (arith, length-take-le (div_ceil bits 8) (drop place bytes) (omega (arith, length-drop place bytes, le)))

-- so many bits stand in the bytes of each section
pub record AreLong (bytes : Bytes) : Type 0 where
  pub labels : 256 * dense_count_in bytes ≤ 8 * length (section_bytes 0 bytes)
  pub dense_children : 256 * dense_count_in bytes ≤ 8 * length (section_bytes 1 bytes)
  pub ends : dense_count_in bytes ≤ 8 * length (section_bytes 2 bytes)
  pub children : label_count_in bytes ≤ 8 * length (section_bytes 4 bytes)
  pub louds : label_count_in bytes ≤ 8 * length (section_bytes 5 bytes)
  pub suffixes : leaf_count_in bytes * suffix_bits_in bytes ≤ 8 * length (section_bytes 6 bytes)

-- how far the sections reach
module _ (d l w n : ℕ) (e : 40 + 64 * d + div_ceil d 8 + l + 2 * div_ceil l 8 + div_ceil w 8 ≡ n) where
  to_0 : 40 + div_ceil (256 * d) 8 ≤ n
  to_0 = omega (arith, e)

  to_1 : 40 + div_ceil (256 * d) 8 + div_ceil (256 * d) 8 ≤ n
  to_1 = omega (arith, e)

  to_2 : 40 + div_ceil (256 * d) 8 + div_ceil (256 * d) 8 + div_ceil d 8 ≤ n
  to_2 = omega (arith, e)

  to_4 : 40 + div_ceil (256 * d) 8 + div_ceil (256 * d) 8 + div_ceil d 8 + div_ceil (8 * l) 8 + div_ceil l 8 ≤ n
  to_4 = omega (arith, e)

  to_5 : 40 + div_ceil (256 * d) 8 + div_ceil (256 * d) 8 + div_ceil d 8 + div_ceil (8 * l) 8 + div_ceil l 8 + div_ceil l 8 ≤ n
  to_5 = omega (arith, e)

  to_6 : 40 + div_ceil (256 * d) 8 + div_ceil (256 * d) 8 + div_ceil d 8 + div_ceil (8 * l) 8 + div_ceil l 8 + div_ceil l 8 + div_ceil w 8 ≤ n
  to_6 = omega (arith, e)

pub are_long : (bytes : Bytes) → image_end (header_in bytes) ≡ length bytes → AreLong bytes
unfolding section_bytes section_place section_bits
are_long bytes e =
    let d = dense_count_in bytes in
    let l = label_count_in bytes in
    let w = leaf_count_in bytes * suffix_bits_in bytes in
    let n = length bytes in
    record {
      labels = enough (256 * d) (section_place 0 bytes) bytes (to_0 d l w n e);
      dense_children = enough (256 * d) (section_place 1 bytes) bytes (to_1 d l w n e);
      ends = enough d (section_place 2 bytes) bytes (to_2 d l w n e);
      children = enough l (section_place 4 bytes) bytes (to_4 d l w n e);
      louds = enough l (section_place 5 bytes) bytes (to_5 d l w n e);
      suffixes = enough w (section_place 6 bytes) bytes (to_6 d l w n e);
    }

-- the bits of a section, by its bytes and the numbers of a header
module _ (bytes xs : Bytes) (h : Header) (is : h ≡ header_in bytes) where
  pub bits_0 : xs ≡ section_bytes 0 bytes → unpacked 8 xs (256 * h.dense) ≡ section 0 bytes
  unfolding section section_bits
  bits_0 e = λ j. unpacked 8 (e j) (256 * (is j).dense)

  pub bits_1 : xs ≡ section_bytes 1 bytes → unpacked 8 xs (256 * h.dense) ≡ section 1 bytes
  unfolding section section_bits
  bits_1 e = λ j. unpacked 8 (e j) (256 * (is j).dense)

  pub bits_2 : xs ≡ section_bytes 2 bytes → unpacked 8 xs h.dense ≡ section 2 bytes
  unfolding section section_bits
  bits_2 e = λ j. unpacked 8 (e j) (is j).dense

  pub bits_4 : xs ≡ section_bytes 4 bytes → unpacked 8 xs h.labels ≡ section 4 bytes
  unfolding section section_bits
  bits_4 e = λ j. unpacked 8 (e j) (is j).labels

  pub bits_5 : xs ≡ section_bytes 5 bytes → unpacked 8 xs h.labels ≡ section 5 bytes
  unfolding section section_bits
  bits_5 e = λ j. unpacked 8 (e j) (is j).labels

  pub bits_6 : xs ≡ section_bytes 6 bytes → unpacked 8 xs (h.leaves * (h.hash_bits + h.real_bits)) ≡ section 6 bytes
  unfolding section section_bits
  bits_6 e = λ j. unpacked 8 (e j) ((is j).leaves * ((is j).hash_bits + (is j).real_bits))

-- ---- dense nodes

spelled_dense : (bytes : Bytes) → stray_fault bytes ≡ None → dense_count_in bytes ≤ 2 ^ 53 → IsSpelled (section 0 bytes) (section 1 bytes) (section 2 bytes) (dense_in bytes)
unfolding dense_in
spelled_dense bytes e few =
    let d = dense_spelled bytes e in
    record {
      labels_are = sym d.labels_are;
      children_are = sym d.children_are;
      ends_are = sym d.ends_are;
      nodes = dense_are (section 2 bytes) (section 0 bytes) (section 1 bytes);
      few = omega (arith, dense_count bytes, few);
    }

pub dense_by : (bytes : Bytes) (l c e : List Bool) → l ≡ section 0 bytes → c ≡ section 1 bytes → e ≡ section 2 bytes → stray_fault bytes ≡ None → dense_count_in bytes ≤ 2 ^ 53
    → IsSpelled l c e (nodes_in l c e)
unfolding nodes_in dense_in
dense_by bytes l c e el ec ee none few =
    subst (λ (l : List Bool). IsSpelled l c e (nodes_in l c e)) (sym el)
    (subst (λ (c : List Bool). IsSpelled (section 0 bytes) c e (nodes_in (section 0 bytes) c e)) (sym ec)
    (subst (λ (e : List Bool). IsSpelled (section 0 bytes) (section 1 bytes) e (nodes_in (section 0 bytes) (section 1 bytes) e)) (sym ee)
    (spelled_dense bytes none few)))

-- ---- sparse nodes

first_named : (t : Bool) (b : Branch) → b.0 < 256 → (b.0 == 255) ≡ t → ((cond {A = Branch} t (END, b.1) b).0 ≤ 256) × ((cond {A = Branch} t (END, b.1) b).0 ≡ 255 → ⊥)
first_named true b l e = (omega arith, λ x. absurd (omega (arith, x)))
first_named false b l e = (omega (arith, l), eqb-false b.0 255 e)

node_named : (n : Node) → 0 < length n → AreBytes n → IsNode (named n)
node_named [] some w = absurd (omega (arith, some))
node_named (b ∷ []) some w = w.0
node_named (b ∷ c ∷ n) some w =
    let f = first_named (b.0 == 255) b w.0 refl in (f.0, f.1, all_of (λ (x : Branch). x.0 < 256) (c ∷ n) w.1)

filled : (louds : List Bool) (bs : List Branch) → AllByRecursion (λ (n : Node). 0 < length n) (cut_nodes louds bs).1
filled [] bs = tt
filled (x ∷ louds) [] = tt
filled (true ∷ louds) (b ∷ bs) = (omega arith, filled louds bs)
filled (false ∷ louds) (b ∷ bs) = filled louds bs

all_named : (ns : List Node) → AllByRecursion (λ (n : Node). 0 < length n) ns → AllByRecursion AreBytes ns → AllByRecursion IsNode (map named ns)
all_named [] some w = tt
all_named (n ∷ ns) some w = (node_named n some.0 w.0, all_named ns some.1 w.1)

nodes_are : (bytes : Bytes) → KeepsBytes bytes → All IsNode (sparse_in bytes)
unfolding sparse_in
nodes_are bytes k =
    let ls = section_bytes 3 bytes in
    let cs = section 4 bytes in
    let louds = section 5 bytes in
    let l = label_lengths bytes (whole_length bytes k.lengths) in
    let bs = zip ls cs in
    let ns = (cut_nodes louds bs).1 in
    let long : length louds ≡ length bs = omega (arith, l.0, l.1, length-zip ls cs l.0) in
    let first = cut_none louds bs (louds_kept bytes k.louds).1 in
    let joins : all ns ≡ bs = ap (λ (n : Node). n ++ all ns) (sym first) ∙ cut_joins louds bs long in
    all_of IsNode (map named ns) (all_named ns (filled louds bs) (bytes_each ns (rw joins (zip_bytes ls cs (label_values bytes k.bytes_are)))))

length_4 : (bytes : Bytes) → length (section 4 bytes) ≡ label_count_in bytes
unfolding section section_bits
length_4 bytes = length-unpacked 8 _ _

spelled_sparse : (bytes : Bytes) → KeepsBytes bytes → label_count_in bytes < 2 ^ 62 → AreSparse (section_bytes 3 bytes) (section 4 bytes) (section 5 bytes) (sparse_in bytes)
spelled_sparse bytes k few =
    let s = sparse_spelled bytes k in
    record {
      labels_are = sym s.labels_are;
      children_are = sym s.children_are;
      louds_are = sym s.louds_are;
      nodes = nodes_are bytes k;
      short = omega (arith, (label_lengths bytes (whole_length bytes k.lengths)).0, length_4 bytes, few);
    }

pub sparse_by : (bytes : Bytes) (ls : List ℕ) (c l : List Bool) → ls ≡ section_bytes 3 bytes → c ≡ section 4 bytes → l ≡ section 5 bytes → KeepsBytes bytes → label_count_in bytes < 2 ^ 62
    → AreSparse ls c l (sparse_nodes ls c l)
unfolding sparse_in
sparse_by bytes ls c l els ec el k few =
    subst (λ (ls : List ℕ). AreSparse ls c l (sparse_nodes ls c l)) (sym els)
    (subst (λ (c : List Bool). AreSparse (section_bytes 3 bytes) c l (sparse_nodes (section_bytes 3 bytes) c l)) (sym ec)
    (subst (λ (l : List Bool). AreSparse (section_bytes 3 bytes) (section 4 bytes) l (sparse_nodes (section_bytes 3 bytes) (section 4 bytes) l)) (sym el)
    (spelled_sparse bytes k few)))

-- ---- both

abbrev tree_of : List Node → List Node → Tree
tree_of dense sparse = record { dense = dense; sparse = sparse }

pub tree_by : (bytes : Bytes) (l c e : List Bool) (ls : List ℕ) (cs louds : List Bool) → l ≡ section 0 bytes → c ≡ section 1 bytes → e ≡ section 2 bytes
    → ls ≡ section_bytes 3 bytes → cs ≡ section 4 bytes → louds ≡ section 5 bytes
    → tree_of (nodes_in l c e) (sparse_nodes ls cs louds) ≡ tree_of (dense_in bytes) (sparse_in bytes)
unfolding nodes_in dense_in sparse_in
tree_by bytes l c e ls cs louds el ec ee els ecs elouds = λ j. tree_of (nodes_in (el j) (ec j) (ee j)) (sparse_nodes (els j) (ecs j) (elouds j))

-- ---- the rule on bits without a label

exact : (size place : ℕ) (bytes : Bytes) → place + size ≤ length bytes → length (take size (drop place bytes)) ≡ size
exact size place bytes le = length-take-le size (drop place bytes) (omega (arith, length-drop place bytes, le))

pub dense_bytes : (bytes : Bytes) → image_end (header_in bytes) ≡ length bytes
    → (length (section_bytes 0 bytes) ≡ div_ceil (256 * dense_count_in bytes) 8) × (length (section_bytes 1 bytes) ≡ div_ceil (256 * dense_count_in bytes) 8)
unfolding section_bytes section_place section_bits
dense_bytes bytes e =
    let d = dense_count_in bytes in
    let l = label_count_in bytes in
    let w = leaf_count_in bytes * suffix_bits_in bytes in
    let n = length bytes in
    (exact (div_ceil (256 * d) 8) (section_place 0 bytes) bytes (to_0 d l w n e), exact (div_ceil (256 * d) 8) (section_place 1 bytes) bytes (to_1 d l w n e))

bits_of_rows : (d k : ℕ) → k ≡ div_ceil (256 * d) 8 → 8 * k ≡ 256 * d
bits_of_rows d k e = omega (arith, e)

pub strays_same : (bytes ls cs : Bytes) → image_end (header_in bytes) ≡ length bytes → ls ≡ section_bytes 0 bytes → cs ≡ section_bytes 1 bytes → stray_rule ls cs ≡ stray_fault bytes
unfolding stray_fault section section_place section_bits
strays_same bytes ls cs whole e f =
    let size = (dense_bytes bytes whole).0 in
    let many : 8 * length (section_bytes 0 bytes) ≡ 256 * dense_count_in bytes = bits_of_rows (dense_count_in bytes) (length (section_bytes 0 bytes)) size in
    (λ j. stray_rule (e j) (f j))
    ∙ (λ j. option_map (λ i. fault (40 + size j + i / 8) 7) (position is_stray (zip (unpacked 8 (section_bytes 0 bytes) (many j)) (unpacked 8 (section_bytes 1 bytes) (many j)))))

pub few_rows : (bytes : Bytes) (h : Header) → h ≡ header_in bytes → image_end h < 2 ^ 64 → image_end (header_in bytes) ≡ length bytes
    → (k : ℕ) → k ≡ div_ceil (256 * dense_count_in bytes) 8 → 40 + k + k < 2 ^ 64
few_rows bytes h is fits e k size =
    let few : length bytes < 2 ^ 64 = subst (λ n. n < 2 ^ 64) (ap image_end is ∙ e) fits in
    omega (arith, few, size, to_1 (dense_count_in bytes) (label_count_in bytes) (leaf_count_in bytes * suffix_bits_in bytes) (length bytes) e)
