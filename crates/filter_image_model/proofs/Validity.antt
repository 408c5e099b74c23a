-- What is read of bytes that break no rule of a kind is a list of that kind, so they are its image.
use Rattle.std.proofs.Common.{◌≡◌, ℕ, zero, suc, ◌+◌, ◌*◌, ◌^◌, ◌<◌, ◌≤◌, Bool, true, false, cond, List, [], ◌∷◌, ◌++◌, length, take, drop, map, refl, sym, ap, ◌∙◌, arith, subst}
use Rattle.std.specs.Prelude.{not, ◌&&◌, ◌||◌, ◌==◌, nat_lt, None}
use Rattle.std.specs.List.{All, AllByRecursion, list_any, range_with_len}
use Rattle.std.proofs.lemmas.List.{length-drop, length-take-le}
use Rattle.std.proofs.lemmas.List.FromFn.{length-map-range_with_len}
use Rattle.std.proofs.lemmas.Simd.{mask_l-lt}
use Rattle.std.proofs.lemmas.Bool.{eq-eqb, lt-ltb, ltb-false, or_parts, true≢false}
use Rattle.byte_fields.specs.Spelling.{IsBytes}
use Rattle.byte_fields.proofs.NumberLemmas.{IsBytes-drop, number_below}
use Rattle.filter_api.specs.Spellings.{MayStand}
use Rattle.filter_model.specs.Image.{has_letter, image}
use Rattle.filter_model.specs.Leaves.{Filter, Leaf}
use Rattle.filter_model.specs.Nodes.{Branch, Node}
use Rattle.filter_model.specs.Trie.{END, height, path}
use Rattle.filter_model.specs.Valid.{EndsRightly, IsCrowded, IsLeaf, IsLeafList}
use Rattle.filter_image_model.specs.Header.{Bytes, hash_bits_in, real_bits_in, cutoff_in, height_in, leaf_count_in, suffix_bits_in, section, section_place}
use Rattle.filter_image_model.specs.Kinds.{IsKind, IsOfKind, Kind, leaves_beside, leaves_under, of_stubs, of_whole_keys}
use Rattle.filter_image_model.specs.Laws.{ImageWasWrittenSo, ImagesWereWrittenSo, IsImageBy, IsWholeImage, WholeImageWasWrittenSo, whole_list}
use Rattle.filter_image_model.specs.Levels.{under_letter, children_of, leaves_behind, leaf_count_of, levels_from, node_leaves, root_leaves}
use Rattle.filter_image_model.specs.Nodes.{dense_in, sparse_in}
use Rattle.filter_image_model.specs.Reading.{image_head_fault, image_in, is_lone_end, is_lone_leaf, is_no_node, is_no_root, leaves_in, nodes_fault, rises, shape_fault, slot_letters, slot_suffix}
use Rattle.filter_image_model.proofs.Lists.{all_append, all_drop, all_map, all_of, all_take}
use Rattle.filter_image_model.proofs.GroupWords.{Sorted, gather}
use Rattle.filter_image_model.proofs.Headers.{header_kept, widths_kept}
use Rattle.filter_image_model.proofs.ImageTrie.{KeepsRules, counts_kept, dense_in_letters, good_nodes, head_kept, nodes_kept, one_group, one_root, read_trie, rules_kept, sparse_letters}
use Rattle.filter_image_model.proofs.ImageWritten.{image_is, length_6}
use Rattle.filter_image_model.proofs.LeavesRead.{HasMarks, IsOwn, behind_own, marks}
use Rattle.filter_image_model.proofs.LevelsRead.{AreLetters, behind_paths, flat, levelled}
use Rattle.filter_image_model.proofs.Reals.{EndsFit, HasNone, behind_real, ends_kept}
use Rattle.byte_fields.proofs.FaultLemmas.{kept, neither, not_false}
use Rattle.filter_image_model.proofs.Rising.{OrderFrom, in_rising_order, rising_leaves, sorted_gather}
use Rattle.filter_image_model.proofs.Standing.{IsTree, KeepsNode, Stands, behind_tree}
use Rattle.filter_image_model.proofs.TrieRead.{length-levels}

-- ---- the nodes, each by itself

pub record IsSound (leaves : ℕ) (n : Node) : Type 0 where
  pub order : OrderFrom 0 n
  pub marked : HasMarks n
  pub keeps : KeepsNode (1 < leaves) 0 n

sound : (leaves : ℕ) (n : Node) → is_no_node leaves n ≡ false → AreLetters n → IsSound leaves n
sound leaves n e w =
    let r1 = or_parts ((length n == 0) || not (rises n) || list_any (λ (b : Branch). (b.0 == END) && b.1) n || is_lone_end n) (is_lone_leaf n && nat_lt 1 leaves) e in
    let r2 = or_parts ((length n == 0) || not (rises n) || list_any (λ (b : Branch). (b.0 == END) && b.1) n) (is_lone_end n) r1.0 in
    let r3 = or_parts ((length n == 0) || not (rises n)) (list_any (λ (b : Branch). (b.0 == END) && b.1) n) r2.0 in
    let r4 = or_parts (length n == 0) (not (rises n)) r3.0 in
    record {
      order = in_rising_order n (not_false (rises n) r4.1);
      marked = marks n w r3.1;
      keeps = record { not_end = r2.1; not_leaf = (λ m. alone (is_lone_leaf n) (ap (λ (t : Bool). is_lone_leaf n && t) (sym (lt-ltb 1 leaves m)) ∙ r1.1)) };
    }
  where
    alone : (t : Bool) → (t && true) ≡ false → t ≡ false
    alone true x = absurd (true≢false x)
    alone false x = refl

all_sound : (leaves : ℕ) (ns : List Node) → AllByRecursion (λ n. is_no_node leaves n ≡ false) ns → AllByRecursion AreLetters ns → AllByRecursion (IsSound leaves) ns
all_sound leaves [] v w = tt
all_sound leaves (n ∷ ns) v w = (sound leaves n v.0 w.0, all_sound leaves ns v.1 w.1)

pub record KeepsShape (alone : Bool) (bytes : Bytes) : Type 0 where
  pub root : is_no_root (height_in bytes) (leaves_under alone (leaf_count_in bytes)) (dense_in bytes ++ sparse_in bytes) ≡ false
  pub nodes : AllByRecursion (IsSound (leaves_beside alone (leaf_count_in bytes))) (dense_in bytes ++ sparse_in bytes)

shape_kept : (alone : Bool) (bytes : Bytes) → KeepsRules alone bytes → KeepsShape alone bytes
unfolding shape_fault
shape_kept alone bytes k =
    let L = leaves_beside alone (leaf_count_in bytes) in
    let s = kept (is_no_root (height_in bytes) (leaves_under alone (leaf_count_in bytes)) (dense_in bytes ++ sparse_in bytes)) _ _ _ k.shape in
    let t = neither (nodes_fault (λ n. 32) L 40 (dense_in bytes)) _ s.1 in
    record {
      root = s.0;
      nodes = all_append (IsSound L) (dense_in bytes) (sparse_in bytes)
          (all_sound L (dense_in bytes) (nodes_kept (λ n. 32) L 40 (dense_in bytes) t.0) (dense_in_letters bytes))
          (all_sound L (sparse_in bytes) (nodes_kept length L (section_place 3 bytes) (sparse_in bytes) t.1) (sparse_letters bytes k.bytes_rules));
    }

-- ---- level by level

by_levels : (P : Node → Type 0) (k size : ℕ) (ns : List Node) → AllByRecursion P ns → AllByRecursion (AllByRecursion P) (levels_from k size ns)
by_levels P zero size ns w = tt
by_levels P (suc k) size ns w = (all_take P size ns w, by_levels P k (children_of (take size ns)) (drop size ns) (all_drop P size ns w))

-- ---- no leaf at the root ends

pub NoEndFirst : List (List Node) → Type 0
NoEndFirst [] = Unit {0}
NoEndFirst ([] ∷ levels) = Unit {0}
NoEndFirst ((n ∷ ns) ∷ levels) = has_letter n END ≡ false

HasStub : Leaf → Type 0
HasStub l = 0 < length l.stub

module _ (h : ℕ) where
  node_stubs : (n : Node) (below : List (List Leaf)) (ss : List ℕ) → has_letter n END ≡ false → AllByRecursion HasStub (node_leaves h n below ss)
  unfolding HasStub
  node_stubs [] below ss e = tt
  node_stubs ((c, true) ∷ n) [] ss e = tt
  node_stubs ((c, true) ∷ n) (ls ∷ below) ss e =
      let parts = or_parts (c == END) (has_letter n END) e in
      all_append HasStub (map (under_letter c) ls) (node_leaves h n below ss) (pushed ls) (node_stubs n below ss parts.1)
    where
      pushed : (ls : List Leaf) → AllByRecursion HasStub (map (under_letter c) ls)
      pushed [] = tt
      pushed (l ∷ ls) = (omega arith, pushed ls)
  node_stubs ((c, false) ∷ n) below [] e = tt
  node_stubs ((c, false) ∷ n) below (s ∷ ss) e =
      let parts = or_parts (c == END) (has_letter n END) e in
      (tip (c == END) parts.0, node_stubs n below ss parts.1)
    where
      tip : (t : Bool) → t ≡ false → 0 < length (cond {A = List ℕ} t [] (c ∷ []))
      tip true e = absurd (true≢false e)
      tip false e = omega arith

  root_stubs : (levels : List (List Node)) (ss : List ℕ) → NoEndFirst levels → AllByRecursion HasStub (root_leaves (leaves_behind h levels ss))
  unfolding NoEndFirst
  root_stubs [] ss e = tt
  root_stubs ([] ∷ levels) ss e = tt
  root_stubs ((n ∷ ns) ∷ levels) ss e = node_stubs n (leaves_behind h levels (drop (leaf_count_of (n ∷ ns)) ss)) ss e

no_end_first : (height leaves k : ℕ) (ns : List Node) → is_no_root height leaves ns ≡ false → NoEndFirst (levels_from k 1 ns)
unfolding NoEndFirst
no_end_first height leaves zero ns e = tt
no_end_first height leaves (suc k) [] e = tt
no_end_first height leaves (suc k) (n ∷ ns) e = (or_parts (has_letter n END) (nat_lt 1 height && (leaves == 1)) e).0

one_high : (height leaves : ℕ) (ns : List Node) → is_no_root height leaves ns ≡ false → leaves ≡ 1 → height ≤ 1
one_high height leaves [] e one = absurd (true≢false e)
one_high height leaves (n ∷ ns) e one =
    let r = or_parts (has_letter n END) (nat_lt 1 height && (leaves == 1)) e in
    ltb-false 1 height (alone (nat_lt 1 height) (ap (λ (t : Bool). nat_lt 1 height && t) (sym (eq-eqb leaves 1 one)) ∙ r.1))
  where
    alone : (t : Bool) → (t && true) ≡ false → t ≡ false
    alone true x = absurd (true≢false x)
    alone false x = refl

-- ---- the suffixes fit

module _ (bytes : Bytes) where
  suffix_fits : (i : ℕ) → i < leaf_count_in bytes → slot_suffix bytes i < 2 ^ suffix_bits_in bytes
  unfolding slot_suffix
  suffix_fits i lt =
      let w = suffix_bits_in bytes in
      let xs = section 6 bytes in
      let room : i * w + w ≤ leaf_count_in bytes * w = less i (leaf_count_in bytes) w lt in
      let size : length (take w (drop (i * w) xs)) ≡ w = length-take-le w (drop (i * w) xs) (omega (arith, length-drop (i * w) xs, length_6 bytes, room)) in
      subst (λ k. slot_suffix bytes i < 2 ^ k) size (mask_l-lt (take w (drop (i * w) xs)))
    where
      less : (i n w : ℕ) → i < n → i * w + w ≤ n * w
      less i n w lt = grind (arith, lt)

  suffixes_fit : (a k : ℕ) → a + k ≤ leaf_count_in bytes → AllByRecursion (λ s. s < 2 ^ suffix_bits_in bytes) (map (slot_suffix bytes) (range_with_len a k))
  suffixes_fit a zero le = tt
  suffixes_fit a (suc k) le = (suffix_fits a (omega (arith, le)), suffixes_fit (a + 1) k (omega (arith, le)))

-- ---- the whole

is_bytes : (x : List ℕ) → AllByRecursion (λ c. c < 256) x → IsBytes x
is_bytes [] w i = omega arith
is_bytes (c ∷ x) w zero = w.0
is_bytes (c ∷ x) w (suc i) = is_bytes x w.1 i

are_leaves : (h r most : ℕ) (ls : List Leaf) → most ≤ 1024 → AllByRecursion (IsOwn h r most) ls → AllByRecursion HasStub ls → AllByRecursion HasNone ls → AllByRecursion (IsLeaf h r) ls
unfolding HasStub
are_leaves h r most [] le o s n = tt
are_leaves h r most (l ∷ ls) le o s n = (
  record { stub = record { bytes = is_bytes l.stub o.0.bytes; filled = s.0; short = omega (arith, o.0.short, le) }; hash_fits = o.0.hash_fits; real_fits = o.0.real_fits; end_without_real = n.0 },
  are_leaves h r most ls le o.1 s.1 n.1,
)

are_single : (h r most : ℕ) (ls : List Leaf) → most ≤ 1 → AllByRecursion (IsOwn h r most) ls → AllByRecursion HasStub ls → AllByRecursion (λ (l : Leaf). length l.stub ≡ 1) ls
unfolding HasStub
are_single h r most [] le o s = tt
are_single h r most (l ∷ ls) le o s = (omega (arith, o.0.short, le, s.0), are_single h r most ls le o.1 s.1)

-- of bytes that keep the rules: the leaves that are read, and where none may be alone, that none is
pub record AreRead (alone : Bool) (bytes : Bytes) : Type 0 where
  pub cutoff_in : cutoff_in bytes ≤ height (leaves_in bytes)
  pub listed : IsLeafList (hash_bits_in bytes) (real_bits_in bytes) (leaves_in bytes)
  pub single : alone ≡ false → length (leaves_in bytes) ≡ 1 → All (λ (l : Leaf). length l.stub ≡ 1) (leaves_in bytes)
  pub crowded : alone ≡ false → 1 < length (leaves_in bytes) → All (IsCrowded (leaves_in bytes)) (leaves_in bytes)

pub are_read : (alone : Bool) (bytes : Bytes) → KeepsRules alone bytes → AreRead alone bytes
unfolding leaves_in
are_read alone bytes k =
    let ns = dense_in bytes ++ sparse_in bytes in
    let h = hash_bits_in bytes in
    let r = real_bits_in bytes in
    let count = leaf_count_in bytes in
    let L = leaves_beside alone count in
    let M = 1 < L in
    let head = header_kept bytes k.bytes_rules.header in
    let c = counts_kept bytes k.counts in
    let shape = shape_kept alone bytes k in
    let t = read_trie bytes k in
    let l = levelled (height_in bytes) 1 ns c.levels (good_nodes bytes k) in
    let levels = levels_from (height_in bytes) 1 ns in
    let ss = map (slot_suffix bytes) (range_with_len 0 count) in
    let enough : leaf_count_of (flat levels) ≤ length ss = omega (arith, ap leaf_count_of l.joined, c.leaves, length-map-range_with_len (slot_suffix bytes) 0 count) in
    let lss = leaves_behind h levels ss in
    let ls = root_leaves lss in
    let paths_are = behind_paths h levels ss enough in
    let root : lss ≡ ls ∷ [] = one_root lss (gather levels) paths_are l.first in
    let gathered : gather levels ≡ map path ls ∷ [] = one_group lss (gather levels) paths_are l.first in
    let tree : IsTree M ls = (subst (AllByRecursion (IsTree M)) root (behind_tree M h levels ss l.levels (by_levels (KeepsNode M h) (height_in bytes) 1 ns (all_map (IsSound L) (KeepsNode M h) (λ n s. record { not_end = s.keeps.not_end; not_leaf = s.keeps.not_leaf }) ns shape.nodes)) enough)).0 in
    let owns : AllByRecursion (IsOwn h r (length levels)) ls =
    (subst (AllByRecursion (AllByRecursion (IsOwn h r (length levels)))) root (behind_own h r levels ss (by_levels HasMarks (height_in bytes) 1 ns (all_map (IsSound L) HasMarks (λ n s. s.marked) ns shape.nodes)) (suffixes_fit bytes 0 count (omega arith)))).0 in
    let reals : AllByRecursion HasNone ls =
    (subst (AllByRecursion (AllByRecursion HasNone)) root (behind_real h levels ss (subst (λ (ms : List Node). EndsFit h (slot_letters ms) ss) (sym l.joined) (ends_kept bytes 0 (slot_letters ns) k.ends count)))).0 in
    let sorted : Sorted (map path ls) =
    (subst (AllByRecursion Sorted) gathered (sorted_gather levels (by_levels (OrderFrom 0) (height_in bytes) 1 ns (all_map (IsSound L) (OrderFrom 0) (λ n s. s.order) ns shape.nodes)))).0 in
    let stubs : AllByRecursion HasStub ls = root_stubs h levels ss (no_end_first (height_in bytes) (leaves_under alone count) (height_in bytes) ns shape.root) in
    let deep : length levels ≡ height_in bytes = length-levels (height_in bytes) 1 ns in
    record {
      cutoff_in = omega (arith, head.cutoff, t.height_is);
      listed = record {
        some = omega (arith, t.count, head.some_leaves);
        few = omega (arith, t.count, number_below 4 (drop 12 bytes) (IsBytes-drop 12 bytes k.bytes_rules.bytes_are) (omega (arith, length-drop 12 bytes, head.long)));
        leaves = all_of (IsLeaf h r) ls (are_leaves h r (length levels) ls (omega (arith, deep, head.low)) owns stubs reals);
        rising = rising_leaves ls (all_map (IsOwn h r (length levels)) (λ (x : Leaf). AllByRecursion (λ b. b < 256) x.stub) (λ x o. o.bytes) ls owns) sorted;
        ends = all_of (EndsRightly ls) ls (all_map (Stands M ls) (EndsRightly ls) (λ x s. s.ends) ls tree.stands);
      };
      single = (λ kept one.
          let under : leaves_under alone count ≡ 1 = ap (λ a. leaves_under a count) kept ∙ sym t.count ∙ one in
          all_of (λ (x : Leaf). length x.stub ≡ 1) ls (are_single h r (length levels) ls (omega (arith, deep, one_high (height_in bytes) (leaves_under alone count) ns shape.root under)) owns stubs));
      crowded = (λ kept more.
          let beside : length ls ≡ L = t.count ∙ sym (ap (λ a. leaves_beside a count) kept) in
          all_of (IsCrowded ls) ls (all_map (Stands M ls) (IsCrowded ls) (λ x s. s.crowded (subst (λ n. 1 < n) beside more)) ls tree.stands));
    }

-- what is read of bytes that break no rule of a kind is a list of that kind
pub stands_by : (k : Kind) (bytes : Bytes) → image_head_fault k.hash_bits k.real_bits bytes ≡ None → KeepsRules k.alone bytes
    → IsOfKind k (hash_bits_in bytes) (real_bits_in bytes) (cutoff_in bytes) (leaves_in bytes)
stands_by k bytes head kept =
    let a = are_read k.alone bytes kept in
    let widths = widths_kept k.hash_bits k.real_bits bytes head in
    record {
      hash_width = widths.0;
      real_width = widths.1;
      cutoff_in = a.cutoff_in;
      listed = a.listed;
      company = (λ together. record {
        some = a.listed.some;
        few = a.listed.few;
        leaves = a.listed.leaves;
        rising = a.listed.rising;
        ends = a.listed.ends;
        single = a.single together;
        crowded = a.crowded together;
      });
    }

-- **bytes that break no rule of a kind are the image of what is read**
pub written_by : ImagesWereWrittenSo
unfolding image_in
written_by k bytes kind h e =
    let kept = rules_kept k bytes kind h e in
    record { may_stand = stands_by k bytes (head_kept k bytes e) kept; bytes_are = image_is bytes kept }

pub stubs_are_a_kind : IsKind of_stubs
stubs_are_a_kind = record { hash_width = omega arith; real_width = omega arith }

pub whole_keys_are_a_kind : IsKind of_whole_keys
whole_keys_are_a_kind = record { hash_width = omega arith; real_width = omega arith }

-- of a filter: what its kind takes may stand
pub may_stand_by : (h r c : ℕ) (ls : List Leaf) → IsOfKind of_stubs h r c ls → MayStand h r c ls
may_stand_by h r c ls o = record { hash_width = o.hash_width; real_width = o.real_width; cutoff_in = o.cutoff_in; valid = o.company refl }

pub was_written_so : ImageWasWrittenSo
was_written_so bytes h e =
    let i = image_in bytes in
    let w = written_by of_stubs bytes stubs_are_a_kind h e in
    record { may_stand = may_stand_by i.hash_bits i.real_bits i.cutoff i.leaves w.may_stand; bytes_are = w.bytes_are }

-- of whole keys: no leaf has bits
pub whole_of_kind : (i : Filter) (bytes : Bytes) → IsImageBy of_whole_keys i bytes → (i ≡ whole_list i.cutoff i.leaves) × IsWholeImage i.cutoff i.leaves bytes
whole_of_kind i bytes w =
    let ls = i.leaves in
    let hash : i.hash_bits ≡ 0 = omega (arith, w.may_stand.hash_width) in
    let real : i.real_bits ≡ 0 = omega (arith, w.may_stand.real_width) in
    let listed : IsLeafList 0 0 ls = subst (λ n. IsLeafList n 0 ls) hash (subst (λ n. IsLeafList i.hash_bits n ls) real w.may_stand.listed) in (
      (λ j. record { hash_bits = hash j; real_bits = real j; cutoff = i.cutoff; leaves = ls }),
      record {
        may_be = record { hash_width = omega arith; real_width = omega arith; cutoff_in = w.may_stand.cutoff_in; valid = listed };
        bytes_are = w.bytes_are ∙ (λ j. image (hash j) (real j) i.cutoff ls);
      },
    )

pub whole_was_written_so : WholeImageWasWrittenSo
unfolding image_in
whole_was_written_so bytes h e = whole_of_kind (image_in bytes) bytes (written_by of_whole_keys bytes whole_keys_are_a_kind h e)
