-- The image of a list of a kind breaks no rule of it and is read as that list.
use Rattle.std.proofs.Common.{◌≡◌, ℕ, zero, suc, ◌+◌, ◌*◌, ◌<◌, ◌≤◌, Bool, true, false, cond, List, [], ◌∷◌, ◌++◌, length, get_or, take, drop, map, refl, sym, ap, ◌∙◌, arith, subst, inl, inr}
use Rattle.std.specs.Prelude.{not, ◌&&◌, ◌||◌, ◌==◌, nat_le, nat_lt, filter, flat_map, None}
use Rattle.std.specs.List.{AllByRecursion, list_any, range_with_len}
use Rattle.std.proofs.lemmas.Bool.{and_from, cases_Bool, eq-eqb, eqb-true, le-leb, le-ltb, lt-ltb, ltb-true, ne_eqb, true≢false}
use Rattle.std.proofs.lemmas.List.{drop_at, length-append, length-take-le, take-append-drop, take_all, take_at}
use Rattle.filter_api.specs.Spellings.{MayBeTrie}
use Rattle.filter_model.proofs.Validity.{valid_lists_are_leaf_lists}
use Rattle.filter_model.specs.Image.{has_letter, image, in_slots, suffixes}
use Rattle.filter_model.specs.Leaves.{Filter, Leaf}
use Rattle.filter_model.specs.Nodes.{Branch, Node, node_of, trie_of}
use Rattle.filter_model.specs.Trie.{END, height, letters, nodes_to, path}
use Rattle.filter_model.specs.Valid.{IsLeaf, IsLeafList, IsValid}
use Rattle.trie_laws.specs.Louds.{IsNode}
use Rattle.trie_model.specs.Letters.{order_of}
use Rattle.filter_image_model.specs.Header.{Bytes, cutoff_in, dense_count_in, hash_bits_in, height_in, leaf_count_in, real_bits_in, section, section_place, suffix_bits_in}
use Rattle.filter_image_model.specs.Kinds.{IsKind, IsOfKind, Kind, leaves_beside, leaves_under, of_stubs, of_tries, of_whole_keys}
use Rattle.filter_image_model.specs.Laws.{ImageIsReadAgain, ImagesAreReadAgain, ImagesHaveOneList, IsImage, IsImageBy, IsWholeImage, WholeImageIsReadAgain, WholeImagesHaveOneList, whole_list}
use Rattle.filter_image_model.specs.Levels.{are_levels, leaf_count_of, nodes_above}
use Rattle.filter_image_model.specs.Levels.{children_of as children_count}
use Rattle.filter_image_model.proofs.RisingBytes.{RisingBytes, byte_order, rising_bytes}
use Rattle.filter_image_model.specs.Nodes.{IsDense, dense_in, sparse_in}
use Rattle.filter_image_model.specs.Reading.{counts_fault, ends_fault, image_head_fault, fault_by, image_in, is_lone_end, is_lone_leaf, is_no_node, is_no_root, length_fault, louds_fault, nodes_fault, nodes_rules, rises, shape_fault, slot_letters, stray_fault}
use Rattle.filter_image_model.specs.Sections.{AreReadAgain, KeepsBytes}
use Rattle.filter_image_model.proofs.Lists.{all_drop, all_parts, all_take, length-map, never}
use Rattle.filter_image_model.proofs.Forms.{HasForm, nodes_formed, nodes_formed_by}
use Rattle.filter_image_model.proofs.Gather.{GoOn}
use Rattle.filter_image_model.proofs.Headers.{header_again}
use Rattle.trie_model.specs.Rests.{tails}
use Rattle.filter_image_model.proofs.GroupWords.{AreLevels, Group, all_children, children_of, gather, goes_on, heads, is_cons, node_of_group, raise}
use Rattle.filter_image_model.proofs.LevelsRead.{flat}
use Rattle.filter_image_model.proofs.OneImage.{dense_of, one_list_an_image, read_as, sparse_of}
use Rattle.filter_image_model.proofs.Paths.{IsFine, bytes_of_leaves, fine_children, fine_paths, kids_counted, kids_in, own_to, recut, stub_bytes, trie_flat}
use Rattle.byte_fields.proofs.FaultLemmas.{none_of, passed}
use Rattle.filter_image_model.proofs.Sizes.{good_all, good_levels, leaves_counted, low_part}
use Rattle.filter_image_model.proofs.SlotNumbers.{ends_none, slot_letters_are, slots_own, suffixes_by_slots}
use Rattle.filter_image_model.proofs.TrieRead.{above_read, height_is, nodes_are, tall, tall_raise, talls}
use Rattle.filter_image_model.proofs.Unique.{gather_own, levels_from}
use Rattle.filter_image_model.proofs.Validity.{stubs_are_a_kind, whole_keys_are_a_kind, written_by}
use Rattle.filter_image_model.proofs.Written.{dense_count}

-- ---- 8: the levels

all_go_on : (n : ℕ) (gs : List Group) → AllByRecursion (IsFine n) gs → GoOn gs
all_go_on n [] w = tt
all_go_on n (g ∷ gs) w = (w.0.on, all_go_on n gs w.1)

levels_hold : (leaves : ℕ) (n : ℕ) (gs : List Group) → AllByRecursion (IsFine n) gs → AllByRecursion (HasForm leaves) (flat (levels_from n gs)) → talls gs ≡ n
    → are_levels n (length gs) (flat (levels_from n gs)) ≡ true
unfolding talls
levels_hold leaves zero gs w f t = ap (λ (hs : List Group). are_levels 0 (length hs) []) (own_to 0 gs w)
levels_hold leaves (suc n) [] w f t = absurd (omega (arith, t))
levels_hold leaves (suc n) (g ∷ hs) w f t =
    let gs = g ∷ hs in
    let N = map node_of_group gs in
    let kids = flat_map children_of gs in
    let rest = flat (levels_from n kids) in
    let cut = all_parts (HasForm leaves) N rest f in
    let own = own_to (suc n) gs w in
    let below = fine_children n gs w in
    let size : length N ≡ length gs = length-map node_of_group gs in
    let count = kids_in gs in
    let raised : raise N kids ≡ gs = ap (raise N) (sym (gather_own n kids own.1)) ∙ gather_own (suc n) gs own in
    let high : talls gs ≡ suc (talls kids) =
    ap talls (sym raised) ∙ tall_raise N kids (good_all leaves N cut.0) (all_go_on n kids below) (omega (arith, count)) ∙ ap (λ (ks : List Group). suc (talls ks)) (take_all (all_children N) kids (omega (arith, count))) in
    let here = take_at N rest (length gs) size in
    let gone = drop_at N rest (length gs) size in
    and_from (not (length gs == 0) && nat_le (length gs) (length (N ++ rest))) (are_levels n (children_count (take (length gs) (N ++ rest))) (drop (length gs) (N ++ rest)))
    (and_from (not (length gs == 0)) (nat_le (length gs) (length (N ++ rest))) (ap not (ne_eqb (length gs) 0 (λ e. omega (arith, e)))) (le-leb (length gs) (length (N ++ rest)) (omega (arith, size, length-append N rest))))
    ((λ j. are_levels n (children_count (here j)) (gone j)) ∙ ap (λ k. are_levels n k rest) (kids_counted gs) ∙ levels_hold leaves n kids below cut.1 (omega (arith, high, t)))

few_above : (c : ℕ) (levels : List (List Node)) → length (flat (take c levels)) ≤ length (flat levels)
few_above zero levels = omega arith
few_above (suc c) [] = omega arith
few_above (suc c) (ns ∷ levels) = omega (arith, few_above c levels, length-append ns (flat (take c levels)), length-append ns (flat levels))

-- the nodes of a leaf list's trie keep rule 8
pub record AreCounted (ls : List Leaf) : Type 0 where
  pub levels : are_levels (height ls) 1 (trie_of ls) ≡ true
  pub above : (c : ℕ) → c ≤ height ls → nodes_above c 1 (trie_of ls) ≡ length (dense_of c ls)
  pub leaves : leaf_count_of (trie_of ls) ≡ length ls

counted : (h r : ℕ) (ls : List Leaf) → IsLeafList h r ls → AreCounted ls
unfolding talls
counted h r ls v =
    let n = height ls in
    let G = map path ls in
    let leaves : ℕ = 1 in
    let f = fine_paths h r ls v n (omega arith) in
    let flat_is = trie_flat ls n (omega arith) f in
    let levels = levels_from n (G ∷ []) in
    let own = own_to n (G ∷ []) (f, tt) in
    let formed : AllByRecursion (HasForm leaves) (flat levels) = subst (AllByRecursion (HasForm leaves)) flat_is (nodes_formed h r ls v) in
    let a : AreLevels levels = good_levels leaves n (G ∷ []) formed own in
    let g : gather levels ≡ G ∷ [] = gather_own n (G ∷ []) own in
    let one : talls (G ∷ []) ≡ tall G = omega arith in
    let held : are_levels n 1 (flat levels) ≡ true = levels_hold leaves n (G ∷ []) (f, tt) formed (one ∙ sym (height_is ls)) in
    record {
      levels = ap (are_levels n 1) flat_is ∙ held;
      above = (λ c le.
          let at : map (node_of ls) (nodes_to ls c) ≡ flat (take c levels) = nodes_are ls levels c a g in
          let size : length (flat (take c levels)) ≡ length (nodes_to ls c) = ap length (sym at) ∙ length-map (node_of ls) (nodes_to ls c) in
          ap (nodes_above c 1) flat_is ∙ sym (above_read c n 1 (flat levels) le held)
          ∙ ap (λ (ks : List (List Node)). length (flat (take c ks))) (recut n (G ∷ [])) ∙ size
          ∙ sym (length-take-le (length (nodes_to ls c)) (trie_of ls) (omega (arith, size, few_above c levels, ap length flat_is))));
      leaves = leaves_counted h r ls v;
    }

-- ---- 9: each node

bytes_rise : (c : ℕ) (n : Node) → RisingBytes c n → rises n ≡ true
bytes_rise c [] w = refl
bytes_rise c (b ∷ []) w = refl
bytes_rise c (b ∷ d ∷ n) w =
    and_from (nat_lt (order_of b.0) (order_of d.0)) (rises (d ∷ n)) (lt-ltb (order_of b.0) (order_of d.0) (omega (arith, byte_order b.0 w.1, byte_order d.0 w.2.1, w.2.0))) (bytes_rise (suc b.0) (d ∷ n) w.2)

dense_rises : (n : Node) → IsDense n → rises n ≡ true
dense_rises n w = ap rises w.is ∙ go w.ends w.bytes (rising_bytes w.bytes w.letters w.rising)
  where
    go : (e : Bool) (m : Node) → RisingBytes 0 m → rises (cond e ((END, false) ∷ []) [] ++ m) ≡ true
    go true [] b = refl
    go true (x ∷ m) b = and_from (nat_lt (order_of 256) (order_of x.0)) (rises (x ∷ m)) (lt-ltb (order_of 256) (order_of x.0) (omega (arith, byte_order x.0 b.1))) (bytes_rise 0 (x ∷ m) b)
    go false m b = bytes_rise 0 m b

no_marks : (c : ℕ) (n : Node) → RisingBytes c n → list_any (λ (b : Branch). (b.0 == END) && b.1) n ≡ false
no_marks c [] w = refl
no_marks c (b ∷ n) w = (λ j. (ne_eqb b.0 256 (λ e. omega (arith, e, w.1)) j && b.1) || no_marks (suc b.0) n w.2 j)

dense_marks : (n : Node) → IsDense n → list_any (λ (b : Branch). (b.0 == END) && b.1) n ≡ false
dense_marks n w = ap (list_any (λ (b : Branch). (b.0 == END) && b.1)) w.is ∙ go w.ends w.bytes (rising_bytes w.bytes w.letters w.rising)
  where
    go : (e : Bool) (m : Node) → RisingBytes 0 m → list_any (λ (b : Branch). (b.0 == END) && b.1) (cond e ((END, false) ∷ []) [] ++ m) ≡ false
    go true m b = no_marks 0 m b
    go false m b = no_marks 0 m b

sparse_some : (n : Node) → IsNode n → (length n == 0) ≡ false
sparse_some [] w = absurd w
sparse_some (b ∷ n) w = ne_eqb (length (b ∷ n)) 0 (λ e. omega (arith, e))

sparse_lone : (n : Node) → IsNode n → is_lone_end n ≡ false
sparse_lone [] w = absurd w
sparse_lone (b ∷ []) w = ne_eqb b.0 256 (λ e. omega (arith, e, w))
sparse_lone (b ∷ d ∷ n) w = refl

node_fine : (leaves : ℕ) (n : Node) → HasForm leaves n → is_no_node leaves n ≡ false
node_fine leaves n f =
    (λ j. sparse_some n f.sparse j || not (dense_rises n f.dense j) || dense_marks n f.dense j || sparse_lone n f.sparse j || alone j)
  where
    alone : (is_lone_leaf n && nat_lt 1 leaves) ≡ false
    alone = elim (cases_Bool (nat_lt 1 leaves)) [
      | inl more ↦ ap (λ (t : Bool). t && nat_lt 1 leaves) (f.crowded (ltb-true 1 leaves more))
      | inr one ↦ ap (λ (t : Bool). is_lone_leaf n && t) one ∙ never (is_lone_leaf n)
    ]

nodes_fine : (width : Node → ℕ) (leaves place : ℕ) (ns : List Node) → AllByRecursion (HasForm leaves) ns → nodes_fault width leaves place ns ≡ None
nodes_fine width leaves place [] f = refl
nodes_fine width leaves place (n ∷ ns) f =
    passed (is_no_node leaves n) place 9 (nodes_fault width leaves (place + width n) ns) (node_fine leaves n f.0) (nodes_fine width leaves (place + width n) ns f.1)

-- ---- 9: the root

range_without_end : (p u : ℕ → Bool) (c k : ℕ) → c + k ≤ 256 → has_letter (map (λ (x : ℕ). (x, u x)) (filter p (range_with_len c k))) END ≡ false
range_without_end p u c zero le = refl
range_without_end p u c (suc k) le = go (p c) (range_without_end p u (c + 1) k (omega (arith, le)))
  where
    go : (t : Bool) → has_letter (map (λ (x : ℕ). (x, u x)) (filter p (range_with_len (c + 1) k))) END ≡ false
        → has_letter (map (λ (x : ℕ). (x, u x)) (cond t (c ∷ filter p (range_with_len (c + 1) k)) (filter p (range_with_len (c + 1) k)))) END ≡ false
    go true ih = (λ j. ne_eqb c 256 (λ e. omega (arith, e, le)) j || ih j)
    go false ih = ih

no_end_behind : (g : Group) → tails 256 g ≡ [] → has_letter (node_of_group g) END ≡ false
unfolding heads letters
no_end_behind g e =
    let p : ℕ → Bool = λ c. is_cons (tails c g) in
    let R = filter p (range_with_len 0 256) in
    ap (λ (t : Bool). has_letter (map (λ (c : ℕ). (c, goes_on (tails c g))) (cond t (END ∷ R) R)) END) (ap is_cons e)
    ∙ range_without_end p (λ c. goes_on (tails c g)) 0 256 (omega arith)

none_at_end : (h r : ℕ) (ls : List Leaf) → ((k : ℕ) (d : Leaf) → k < length ls → IsLeaf h r (get_or ls k d)) → bytes_of_leaves ls → tails 256 (map path ls) ≡ []
unfolding path
none_at_end h r [] v w = refl
none_at_end h r (l ∷ ls) v w = one l.stub (v 0 l (omega arith)).stub.filled w.0 (none_at_end h r ls (λ k d lt. v (suc k) d (omega (arith, lt))) w.1)
  where
    one : (x : List ℕ) → 0 < length x → AllByRecursion (λ c. c < 256) x → tails 256 (map path ls) ≡ [] → tails 256 ((x ++ cond l.ends (END ∷ []) []) ∷ map path ls) ≡ []
    one [] lt b e = absurd (omega (arith, lt))
    one (a ∷ x) lt b e = ap (λ (t : Bool). cond {A = Group} t ((x ++ cond l.ends (END ∷ []) []) ∷ tails 256 (map path ls)) (tails 256 (map path ls))) (ne_eqb a 256 (λ i. omega (arith, i, b.0))) ∙ e

single_stubs : (ls : List Leaf) → ((k : ℕ) (d : Leaf) → k < length ls → length (get_or ls k d).stub ≡ 1) → AllByRecursion (λ (o : Leaf). length o.stub ≤ 1) ls
single_stubs [] s = tt
single_stubs (l ∷ ls) s = (omega (arith, s 0 l (omega arith)), single_stubs ls (λ k d lt. s (suc k) d (omega (arith, lt))))

root_fine_of : (n h r : ℕ) (ls : List Leaf) → IsLeafList h r ls → (nat_lt 1 (height ls) && (n == 1)) ≡ false → is_no_root (height ls) n (trie_of ls) ≡ false
root_fine_of n h r ls v low =
    let G = map path ls in
    let f = fine_paths h r ls v (height ls) (omega arith) in
    ap (is_no_root (height ls) n) (trie_flat ls (suc (height ls)) (omega arith) f)
    ∙ (λ j. no_end_behind G (none_at_end h r ls v.leaves (stub_bytes h r ls v.leaves)) j || low j)

root_fine : (alone : Bool) (h r : ℕ) (ls : List Leaf) → IsLeafList h r ls → (alone ≡ false → IsValid h r ls) → is_no_root (height ls) (leaves_under alone (length ls)) (trie_of ls) ≡ false
root_fine true h r ls v w = root_fine_of 0 h r ls v (never (nat_lt 1 (height ls)))
root_fine false h r ls v w = root_fine_of (length ls) h r ls v low
  where
    low : (nat_lt 1 (height ls) && (length ls == 1)) ≡ false
    low = elim (cases_Bool (length ls == 1)) [
      | inl one ↦
          let s = single_stubs ls ((w refl).single (eqb-true (length ls) 1 one)) in
          ap (λ (t : Bool). t && (length ls == 1)) (le-ltb 1 (height ls) (low_part 1 ls ls s s v.ends))
      | inr more ↦ ap (λ (t : Bool). nat_lt 1 (height ls) && t) more ∙ never (nat_lt 1 (height ls))
    ]

-- ---- the whole

-- the nodes that are read are those of the trie
abbrev IsTrie : Bytes → List Leaf → Type 0
IsTrie bytes ls = dense_in bytes ++ sparse_in bytes ≡ trie_of ls

module _ (bytes : Bytes) (h r c : ℕ) (ls : List Leaf) (v : IsLeafList h r ls) (le : c ≤ height ls)
    (a : AreReadAgain h r c (height ls) (length ls) (dense_of c ls) (sparse_of c ls) (suffixes h r ls) bytes) where
  trie_is : IsTrie bytes ls
  trie_is = (λ j. a.dense_are j ++ a.sparse_are j) ∙ take-append-drop (length (nodes_to ls c)) (trie_of ls)

  counts_none : counts_fault bytes (dense_in bytes ++ sparse_in bytes) ≡ None
  unfolding counts_fault
  counts_none =
      let T = trie_of ls in
      let k = counted h r ls v in
      let levels : are_levels (height_in bytes) 1 T ≡ true = ap (λ n. are_levels n 1 T) a.height_is ∙ k.levels in
      let above : nodes_above (cutoff_in bytes) 1 T ≡ dense_count_in bytes = ap (λ n. nodes_above n 1 T) a.cutoff_is ∙ k.above c le ∙ ap length (sym a.dense_are) ∙ dense_count bytes in
      let leaves : leaf_count_of T ≡ leaf_count_in bytes = k.leaves ∙ sym a.leaves_are in
      ap (counts_fault bytes) trie_is
      ∙ passed (not (are_levels (height_in bytes) 1 T) || not (nodes_above (cutoff_in bytes) 1 T == dense_count_in bytes) || not (leaf_count_of T == leaf_count_in bytes)) 8 8 None
      (λ j. not (levels j) || not (eq-eqb (nodes_above (cutoff_in bytes) 1 T) (dense_count_in bytes) above j) || not (eq-eqb (leaf_count_of T) (leaf_count_in bytes) leaves j)) refl

  shape_none : (alone : Bool) → (alone ≡ false → IsValid h r ls) → shape_fault alone bytes (dense_in bytes) (sparse_in bytes) ≡ None
  unfolding shape_fault
  shape_none alone w =
      let L = leaves_beside alone (leaf_count_in bytes) in
      let U = leaves_under alone (leaf_count_in bytes) in
      let forms : AllByRecursion (HasForm L) (trie_of ls) = subst (λ n. AllByRecursion (HasForm (leaves_beside alone n)) (trie_of ls)) (sym a.leaves_are) (nodes_formed_by alone h r ls v w) in
      let root : is_no_root (height_in bytes) U (dense_in bytes ++ sparse_in bytes) ≡ false =
      (λ j. is_no_root (a.height_is j) (leaves_under alone (a.leaves_are j)) (trie_is j)) ∙ root_fine alone h r ls v w in
      passed (is_no_root (height_in bytes) U (dense_in bytes ++ sparse_in bytes)) 40 9 _ root
      (none_of (nodes_fault (λ n. 32) L 40 (dense_in bytes)) (nodes_fault length L (section_place 3 bytes) (sparse_in bytes))
      (nodes_fine (λ n. 32) L 40 (dense_in bytes) (subst (AllByRecursion (HasForm L)) (sym a.dense_are) (all_take (HasForm L) (length (nodes_to ls c)) (trie_of ls) forms)))
      (nodes_fine length L (section_place 3 bytes) (sparse_in bytes) (subst (AllByRecursion (HasForm L)) (sym a.sparse_are) (all_drop (HasForm L) (length (nodes_to ls c)) (trie_of ls) forms))))

  suffixes_none : ends_fault bytes 0 (slot_letters (dense_in bytes ++ sparse_in bytes)) ≡ None
  suffixes_none =
      let g = hash_bits_in bytes in
      let q = real_bits_in bytes in
      let valid : IsLeafList g q ls = subst (λ n. IsLeafList n q ls) (sym a.hash_is) (subst (λ n. IsLeafList h n ls) (sym a.real_is) v) in
      ap (ends_fault bytes 0) (ap slot_letters trie_is ∙ slot_letters_are g q ls valid)
      ∙ ends_none bytes 0 (in_slots ls) (slots_own g q ls valid)
      (ap (λ k. drop k (section 6 bytes)) (zero_times (suffix_bits_in bytes)) ∙ a.suffixes_are ∙ (λ j. suffixes (sym a.hash_is j) (sym a.real_is j) ls) ∙ suffixes_by_slots g q ls)
    where
      zero_times : (w : ℕ) → 0 * w ≡ 0
      zero_times w = omega arith

  none_broken : (k : Kind) → hash_bits_in bytes ≤ k.hash_bits → real_bits_in bytes ≤ k.real_bits → (k.alone ≡ false → IsValid h r ls) → KeepsBytes bytes → fault_by k bytes ≡ None
  unfolding fault_by nodes_rules
  none_broken k hash real w kept =
      none_of (image_head_fault k.hash_bits k.real_bits bytes) _ (header_again 32 32 k.hash_bits k.real_bits bytes kept.header hash real)
      (none_of (length_fault bytes) _ kept.lengths (none_of _ _ kept.padding (none_of (stray_fault bytes) _ kept.strays (none_of (louds_fault bytes) _ kept.louds
      (none_of (counts_fault bytes (dense_in bytes ++ sparse_in bytes)) _ counts_none (none_of (shape_fault k.alone bytes (dense_in bytes) (sparse_in bytes)) _ (shape_none k.alone w) suffixes_none))))))

-- a list of a kind may be a trie
pub trie_by : (k : Kind) → IsKind k → (h r c : ℕ) (ls : List Leaf) → IsOfKind k h r c ls → MayBeTrie h r c ls
trie_by k kind h r c ls o = record {
  hash_width = omega (arith, o.hash_width, kind.hash_width);
  real_width = omega (arith, o.real_width, kind.real_width);
  cutoff_in = o.cutoff_in;
  valid = o.listed;
}

-- **the image of a list of a kind breaks no rule of it and is read as that list**
pub read_again_by : ImagesAreReadAgain
unfolding image_in
read_again_by k i bytes kind s =
    let h = i.hash_bits in
    let r = i.real_bits in
    let may = trie_by k kind h r i.cutoff i.leaves s.may_stand in
    let a = read_as h r i.cutoff i.leaves bytes may s.bytes_are in
    let fine : fault_by k bytes ≡ None =
    none_broken bytes h r i.cutoff i.leaves s.may_stand.listed s.may_stand.cutoff_in a.1 k
    (omega (arith, a.1.hash_is, s.may_stand.hash_width)) (omega (arith, a.1.real_is, s.may_stand.real_width)) s.may_stand.company a.0 in
    let again = written_by k bytes kind a.0.bytes_are fine in
    let alike = one_list_an_image _ _ _ _ _ _ _ _ bytes (trie_by k kind _ _ _ _ again.may_stand) again.bytes_are may s.bytes_are in
    (fine, (λ j. record { hash_bits = alike.hash_width j; real_bits = alike.real_width j; cutoff = a.1.cutoff_is j; leaves = alike.leaves_are j }))

-- a filter's image is one of its kind
pub image_by_stubs : (i : Filter) (bytes : Bytes) → IsImage i bytes → IsImageBy of_stubs i bytes
image_by_stubs i bytes s =
    let m = s.may_stand in
    record {
      may_stand = record {
        hash_width = m.hash_width;
        real_width = m.real_width;
        cutoff_in = m.cutoff_in;
        listed = valid_lists_are_leaf_lists i.hash_bits i.real_bits i.leaves m.valid;
        company = (λ together. m.valid);
      };
      bytes_are = s.bytes_are;
    }

pub read_again : ImageIsReadAgain
read_again i bytes s = read_again_by of_stubs i bytes stubs_are_a_kind (image_by_stubs i bytes s)

-- a whole image is one of its kind
pub whole_by : (cutoff : ℕ) (leaves : List Leaf) (bytes : Bytes) → IsWholeImage cutoff leaves bytes → IsImageBy of_whole_keys (whole_list cutoff leaves) bytes
whole_by cutoff leaves bytes s = record {
  may_stand = record { hash_width = omega arith; real_width = omega arith; cutoff_in = s.may_be.cutoff_in; listed = s.may_be.valid; company = (λ e. absurd (true≢false e)) };
  bytes_are = s.bytes_are;
}

pub whole_read_again : WholeImageIsReadAgain
whole_read_again cutoff leaves bytes s = read_again_by of_whole_keys (whole_list cutoff leaves) bytes whole_keys_are_a_kind (whole_by cutoff leaves bytes s)

-- of any trie
pub tries_are_a_kind : IsKind of_tries
tries_are_a_kind = record { hash_width = omega arith; real_width = omega arith }

pub trie_read_again : (i : Filter) (bytes : Bytes) → MayBeTrie i.hash_bits i.real_bits i.cutoff i.leaves → bytes ≡ image i.hash_bits i.real_bits i.cutoff i.leaves → image_in bytes ≡ i
trie_read_again i bytes m e =
    (read_again_by of_tries i bytes tries_are_a_kind
    (record {
      may_stand = record { hash_width = m.hash_width; real_width = m.real_width; cutoff_in = m.cutoff_in; listed = m.valid; company = (λ f. absurd (true≢false f)) };
      bytes_are = e;
    })).1

pub one_list_by : ImagesHaveOneList
one_list_by i o bytes s t =
    one_list_an_image i.hash_bits i.real_bits i.cutoff o.hash_bits o.real_bits o.cutoff i.leaves o.leaves bytes
    (trie_by of_tries tries_are_a_kind i.hash_bits i.real_bits i.cutoff i.leaves s.may_stand) s.bytes_are
    (trie_by of_tries tries_are_a_kind o.hash_bits o.real_bits o.cutoff o.leaves t.may_stand) t.bytes_are

pub one_whole_list : WholeImagesHaveOneList
one_whole_list cutoff other leaves others bytes s t =
    (one_list_an_image 0 0 cutoff 0 0 other leaves others bytes s.may_be s.bytes_are t.may_be t.bytes_are).leaves_are
