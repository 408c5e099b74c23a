-- Bytes that break no rule: the trie of the leaves that are read is the list of nodes that is read.
use Rattle.std.proofs.Common.{◌≡◌, ℕ, suc, ◌+◌, ◌<◌, ◌≤◌, Bool, true, false, cond, List, [], ◌∷◌, ◌++◌, length, map, refl, sym, ap, ◌∙◌, arith}
use Rattle.std.specs.Prelude.{not, ◌&&◌, ◌||◌, ◌==◌, nat_lt, None, zip}
use Rattle.std.specs.List.{AllByRecursion, list_any, range_with_len}
use Rattle.std.proofs.lemmas.List.{take_all}
use Rattle.std.proofs.lemmas.List.FromFn.{length-map-range_with_len}
use Rattle.std.proofs.lemmas.Bool.{eqb-true, or_parts}
use Rattle.filter_model.specs.Leaves.{Leaf}
use Rattle.filter_model.specs.Nodes.{Branch, Node, all, node_of, trie_of}
use Rattle.filter_model.specs.Trie.{END, height, nodes, nodes_to, path}
use Rattle.byte_fields.specs.Spelling.{IsBytes}
use Rattle.filter_image_model.specs.Header.{Bytes, hash_bits_in, cutoff_in, height_in, leaf_count_in, dense_count_in, section_bits, section_bytes, section, section_place}
use Rattle.filter_image_model.specs.Kinds.{IsKind, Kind, leaves_beside, leaves_under}
use Rattle.filter_image_model.specs.Levels.{are_levels, levels_from, leaf_count_of, nodes_above, leaves_behind, root_leaves}
use Rattle.filter_image_model.proofs.RisingBytes.{RisingBytes, rising_bytes}
use Rattle.filter_image_model.specs.Nodes.{IsDense, cut_nodes, named, dense_in, sparse_in}
use Rattle.filter_image_model.proofs.Lists.{all_append, length-map}
use Rattle.filter_image_model.proofs.SparseNodes.{AreBytes}
use Rattle.filter_image_model.specs.Reading.{rises, is_no_node, is_no_root, is_lone_end, is_lone_leaf, nodes_fault, image_head_fault, length_fault, padding_fault, stray_fault, louds_fault, counts_fault, shape_fault, ends_fault, nodes_rules, fault_by, slot_suffix, leaves_in, slot_letters}
use Rattle.filter_image_model.specs.Sections.{KeepsBytes}
use Rattle.filter_image_model.specs.Laws.{IsReadTrie, TrieIsRead}
use Rattle.byte_fields.proofs.FaultLemmas.{kept, neither, not_false}
use Rattle.filter_image_model.proofs.Headers.{header_again, header_kept, widths_kept}
use Rattle.filter_image_model.proofs.GroupWords.{Group, gather, IsGoodNode}
use Rattle.filter_image_model.proofs.DenseNodes.{dense_are}
use Rattle.filter_image_model.proofs.SparseNodes.{bytes_each, zip_bytes, cut_joins, cut_none, length-zip}
use Rattle.filter_image_model.proofs.Written.{dense_count, label_values, label_lengths, whole_length, louds_kept}
use Rattle.filter_image_model.proofs.LevelsRead.{flat, AreLetters, good_node, levelled, behind_paths, paths}
use Rattle.filter_image_model.proofs.TrieRead.{nodes_are, height_read, leaves_read, length-levels, filled_levels, above_read}

-- ---- letters

dense_letters : (c : ℕ) (n : Node) → RisingBytes c n → AreLetters n
dense_letters c [] w = tt
dense_letters c (b ∷ n) w = (omega (arith, w.1), dense_letters (suc b.0) n w.2)

dense_node_letters : (n : Node) → IsDense n → AreLetters n
dense_node_letters n w = rw w.is (go w.ends w.bytes (rising_bytes w.bytes w.letters w.rising))
  where
    go : (e : Bool) (m : Node) → RisingBytes 0 m → AreLetters (cond e ((END, false) ∷ []) [] ++ m)
    go true m w = (omega arith, dense_letters 0 m w)
    go false m w = dense_letters 0 m w

all_dense_letters : (ns : List Node) → AllByRecursion IsDense ns → AllByRecursion AreLetters ns
all_dense_letters [] w = tt
all_dense_letters (n ∷ ns) w = (dense_node_letters n w.0, all_dense_letters ns w.1)

byte_letters : (n : Node) → AreBytes n → AreLetters n
byte_letters [] w = tt
byte_letters (b ∷ n) w = (omega (arith, w.0), byte_letters n w.1)

named_letters : (n : Node) → AreBytes n → AreLetters (named n)
named_letters [] w = tt
named_letters (b ∷ []) w = byte_letters (b ∷ []) w
named_letters (b ∷ c ∷ n) w = (first (b.0 == 255) b w.0, byte_letters (c ∷ n) w.1)
  where
    first : (t : Bool) (b : Branch) → b.0 < 256 → (cond {A = Branch} t (END, b.1) b).0 ≤ 256
    first true b l = omega arith
    first false b l = omega (arith, l)

all_named_letters : (ns : List Node) → AllByRecursion AreBytes ns → AllByRecursion AreLetters (map named ns)
all_named_letters [] w = tt
all_named_letters (n ∷ ns) w = (named_letters n w.0, all_named_letters ns w.1)

pub sparse_letters : (bytes : Bytes) → KeepsBytes bytes → AllByRecursion AreLetters (sparse_in bytes)
unfolding sparse_in
sparse_letters bytes k =
    let ls = section_bytes 3 bytes in
    let cs = section 4 bytes in
    let louds = section 5 bytes in
    let l = label_lengths bytes (whole_length bytes k.lengths) in
    let bs = zip ls cs in
    let long : length louds ≡ length bs = omega (arith, l.0, l.1, length-zip ls cs l.0) in
    let first = cut_none louds bs (louds_kept bytes k.louds).1 in
    let joins : all (cut_nodes louds bs).1 ≡ bs = ap (λ (n : Node). n ++ all (cut_nodes louds bs).1) (sym first) ∙ cut_joins louds bs long in
    all_named_letters (cut_nodes louds bs).1 (bytes_each (cut_nodes louds bs).1 (rw joins (zip_bytes ls cs (label_values bytes k.bytes_are))))

pub dense_in_letters : (bytes : Bytes) → AllByRecursion AreLetters (dense_in bytes)
unfolding dense_in
dense_in_letters bytes = all_dense_letters _ (dense_are (section 2 bytes) (section 0 bytes) (section 1 bytes))

-- ---- rule 9

pub nodes_kept : (width : Node → ℕ) (leaves place : ℕ) (ns : List Node) → nodes_fault width leaves place ns ≡ None → AllByRecursion (λ n. is_no_node leaves n ≡ false) ns
nodes_kept width leaves place [] e = tt
nodes_kept width leaves place (n ∷ ns) e =
    let r = kept (is_no_node leaves n) place 9 (nodes_fault width leaves (place + width n) ns) e in
    (r.0, nodes_kept width leaves (place + width n) ns r.1)

sound : (leaves : ℕ) (n : Node) → is_no_node leaves n ≡ false → AreLetters n → IsGoodNode n
sound leaves n e w =
    let r1 = or_parts ((length n == 0) || not (rises n) || list_any (λ (b : Branch). (b.0 == END) && b.1) n || is_lone_end n) (is_lone_leaf n && nat_lt 1 leaves) e in
    let r2 = or_parts ((length n == 0) || not (rises n) || list_any (λ (b : Branch). (b.0 == END) && b.1) n) (is_lone_end n) r1.0 in
    let r3 = or_parts ((length n == 0) || not (rises n)) (list_any (λ (b : Branch). (b.0 == END) && b.1) n) r2.0 in
    let r4 = or_parts (length n == 0) (not (rises n)) r3.0 in
    good_node n r4.0 (not_false (rises n) r4.1) w

all_sound : (leaves : ℕ) (ns : List Node) → AllByRecursion (λ n. is_no_node leaves n ≡ false) ns → AllByRecursion AreLetters ns → AllByRecursion IsGoodNode ns
all_sound leaves [] v w = tt
all_sound leaves (n ∷ ns) v w = (sound leaves n v.0 w.0, all_sound leaves ns v.1 w.1)

-- ---- all rules

-- where a leaf may be alone in its node, or may not
pub record KeepsRules (alone : Bool) (bytes : Bytes) : Type 0 where
  pub bytes_rules : KeepsBytes bytes
  pub counts : counts_fault bytes (dense_in bytes ++ sparse_in bytes) ≡ None
  pub shape : shape_fault alone bytes (dense_in bytes) (sparse_in bytes) ≡ None
  pub ends : ends_fault bytes 0 (slot_letters (dense_in bytes ++ sparse_in bytes)) ≡ None

pub head_kept : (k : Kind) (bytes : Bytes) → fault_by k bytes ≡ None → image_head_fault k.hash_bits k.real_bits bytes ≡ None
unfolding fault_by
head_kept k bytes e = (neither (image_head_fault k.hash_bits k.real_bits bytes) _ e).0

-- bytes that break no rule of a kind keep each one
pub rules_kept : (k : Kind) (bytes : Bytes) → IsKind k → IsBytes bytes → fault_by k bytes ≡ None → KeepsRules k.alone bytes
unfolding fault_by nodes_rules
rules_kept k bytes kind h e =
    let r1 = neither (image_head_fault k.hash_bits k.real_bits bytes) _ e in
    let r2 = neither (length_fault bytes) _ r1.1 in
    let r3 = neither (padding_fault 40 (section_bits bytes) bytes) _ r2.1 in
    let r4 = neither (stray_fault bytes) _ r3.1 in
    let r5 = neither (louds_fault bytes) _ r4.1 in
    let r6 = neither (counts_fault bytes (dense_in bytes ++ sparse_in bytes)) _ r5.1 in
    let r7 = neither (shape_fault k.alone bytes (dense_in bytes) (sparse_in bytes)) _ r6.1 in
    let widths = widths_kept k.hash_bits k.real_bits bytes r1.0 in
    let head = header_again k.hash_bits k.real_bits 32 32 bytes r1.0 (omega (arith, widths.0, kind.hash_width)) (omega (arith, widths.1, kind.real_width)) in
    record {
      bytes_rules = record { bytes_are = h; header = head; lengths = r2.0; padding = r3.0; strays = r4.0; louds = r5.0 };
      counts = r6.0;
      shape = r7.0;
      ends = r7.1;
    }

pub record KeepsCounts (bytes : Bytes) : Type 0 where
  pub levels : are_levels (height_in bytes) 1 (dense_in bytes ++ sparse_in bytes) ≡ true
  pub dense : nodes_above (cutoff_in bytes) 1 (dense_in bytes ++ sparse_in bytes) ≡ dense_count_in bytes
  pub leaves : leaf_count_of (dense_in bytes ++ sparse_in bytes) ≡ leaf_count_in bytes

pub counts_kept : (bytes : Bytes) → counts_fault bytes (dense_in bytes ++ sparse_in bytes) ≡ None → KeepsCounts bytes
unfolding counts_fault
counts_kept bytes e =
    let ns = dense_in bytes ++ sparse_in bytes in
    let r = or_parts (not (are_levels (height_in bytes) 1 ns) || not (nodes_above (cutoff_in bytes) 1 ns == dense_count_in bytes)) (not (leaf_count_of ns == leaf_count_in bytes)) (kept _ _ _ _ e).0 in
    let s = or_parts (not (are_levels (height_in bytes) 1 ns)) (not (nodes_above (cutoff_in bytes) 1 ns == dense_count_in bytes)) r.0 in
    record { levels = not_false _ s.0; dense = eqb-true _ _ (not_false _ s.1); leaves = eqb-true _ _ (not_false _ r.1) }

pub good_nodes : {alone : Bool} (bytes : Bytes) → KeepsRules alone bytes → AllByRecursion IsGoodNode (dense_in bytes ++ sparse_in bytes)
unfolding shape_fault
good_nodes {alone} bytes k =
    let L = leaves_beside alone (leaf_count_in bytes) in
    let s = kept (is_no_root (height_in bytes) (leaves_under alone (leaf_count_in bytes)) (dense_in bytes ++ sparse_in bytes)) _ _ _ k.shape in
    let t = neither (nodes_fault (λ n. 32) L 40 (dense_in bytes)) _ s.1 in
    all_append IsGoodNode (dense_in bytes) (sparse_in bytes)
    (all_sound L (dense_in bytes) (nodes_kept (λ n. 32) L 40 (dense_in bytes) t.0) (dense_in_letters bytes))
    (all_sound L (sparse_in bytes) (nodes_kept length L (section_place 3 bytes) (sparse_in bytes) t.1) (sparse_letters bytes k.bytes_rules))

-- ---- the leaves

pub one_root : (lss : List (List Leaf)) (gs : List Group) → paths lss ≡ gs → length gs ≡ 1 → lss ≡ root_leaves lss ∷ []
one_root [] gs e l = absurd (omega (arith, l, ap length e))
one_root (ls ∷ []) gs e l = refl
one_root (ls ∷ more ∷ lss) gs e l = absurd (omega (arith, l, ap length e))

pub one_group : (lss : List (List Leaf)) (gs : List Group) → paths lss ≡ gs → length gs ≡ 1 → gs ≡ map path (root_leaves lss) ∷ []
one_group [] gs e l = absurd (omega (arith, l, ap length e))
one_group (ls ∷ []) gs e l = sym e
one_group (ls ∷ more ∷ lss) gs e l = absurd (omega (arith, l, ap length e))

pub read_trie : {alone : Bool} (bytes : Bytes) → KeepsRules alone bytes → IsReadTrie bytes
unfolding leaves_in trie_of nodes
read_trie bytes k =
    let ns = dense_in bytes ++ sparse_in bytes in
    let c = counts_kept bytes k.counts in
    let head = header_kept bytes k.bytes_rules.header in
    let l = levelled (height_in bytes) 1 ns c.levels (good_nodes bytes k) in
    let levels = levels_from (height_in bytes) 1 ns in
    let suffixes = map (slot_suffix bytes) (range_with_len 0 (leaf_count_in bytes)) in
    let enough : leaf_count_of (flat levels) ≤ length suffixes = omega (arith, ap leaf_count_of l.joined, c.leaves, length-map-range_with_len (slot_suffix bytes) 0 (leaf_count_in bytes)) in
    let lss = leaves_behind (hash_bits_in bytes) levels suffixes in
    let ls = root_leaves lss in
    let gathered : gather levels ≡ map path ls ∷ [] = one_group lss (gather levels) (behind_paths (hash_bits_in bytes) levels suffixes enough) l.first in
    let high : height ls ≡ height_in bytes = height_read ls levels l.levels (filled_levels (height_in bytes) 1 ns c.levels) gathered ∙ length-levels (height_in bytes) 1 ns in
    let above = nodes_are ls levels (cutoff_in bytes) l.levels gathered in
    record {
      trie = ap (λ n. map (node_of ls) (nodes_to ls n)) high ∙ nodes_are ls levels (height_in bytes) l.levels gathered
          ∙ ap flat (take_all (height_in bytes) levels (omega (arith, length-levels (height_in bytes) 1 ns))) ∙ l.joined;
      height_is = high;
      below = sym (length-map (node_of ls) (nodes_to ls (cutoff_in bytes))) ∙ ap length above ∙ above_read (cutoff_in bytes) (height_in bytes) 1 ns head.cutoff c.levels ∙ c.dense ∙ sym (dense_count bytes);
      count = leaves_read ls levels l.levels gathered ∙ ap leaf_count_of l.joined ∙ c.leaves;
    }

pub trie_read : TrieIsRead
trie_read k bytes kind h e = read_trie bytes (rules_kept k bytes kind h e)
