-- The parts of a trie that was built are those of its list.
use Rattle.std.proofs.Common.{◌≡◌, ◌<◌, ◌≤◌, ◌+◌, ◌^◌, ℕ, zero, suc, nat_lt, List, [], ◌∷◌, ◌++◌, length, get_or, take, drop, map, refl, sym, ap, subst, ◌∙◌, arith, add-one}
use Rattle.std.specs.Prelude.{flat_map, sum, sum_by}
use Rattle.std.specs.List.{All, range_with_len}
use Rattle.std.proofs.Math.Seq.{take-append_seam, drop-append_seam}
use Rattle.std.proofs.lemmas.Bool.{lt-ltb}
use Rattle.std.proofs.lemmas.List.{length-append, length-map, map-append, take-append-drop, take_all}
use Rattle.std.proofs.lemmas.List.FromFn.{get_or-map-range_with_len}
use Rattle.std.proofs.lemmas.List.Sums.{sum_by-append, sum_by-cons, sum_by_more}
use Rattle.std.proofs.lemmas.List.Elements.{All-map}
use Rattle.filter_model.specs.Keys.{IsKeyList}
use Rattle.filter_model.specs.Leaves.{Filter, Leaf, base_leaves, leaf_of, leaves_of}
use Rattle.filter_model.specs.Nodes.{Branch, Node, last_letter, node_of, trie_of}
use Rattle.filter_model.specs.Trie.{branches, height, is_node, level, level_labels, level_nodes, nodes, nodes_to, path}
use Rattle.filter_trie.specs.Building.{AreFewCounts, nodes_behind}
use Rattle.filter_trie.specs.Parts.{AreParts, lower, upper}
use Rattle.filter_trie.specs.Pending.{ArePending, IsNew, suffixes_passed}
use Rattle.filter_trie.specs.declared.build_pending.Pending.{Pending}
use Rattle.filter_model.specs.Image.{in_slots, suffixes}
use Rattle.filter_model.proofs.Validity.{leaves_are_listed}
use Rattle.filter_trie.specs.Building.{half_to}
use Rattle.louds_dense.specs.Places.{counts_of}
use Rattle.suffix_bits.specs.Slots.{SuffixArray, array_bits, leaf_suffix, packed_suffixes}
use Rattle.trie_laws.proofs.Slots.{leaves_have_slots}
use Rattle.trie_levels.proofs.ByLength.{slots_by_length}
use Rattle.trie_levels.proofs.Totals.{valid_lists_have_tries}
use Rattle.trie_model.specs.Halves.{Half}
use Rattle.trie_model.specs.declared.parts.Before.{Before}
use Rattle.filter_trie.proofs.Levels.{keys_have_trie, keys_short, levels_within}
use Rattle.filter_trie.proofs.Sizes.{one_each}
use Rattle.filter_trie.proofs.SameTries.{same_height, same_level_labels, same_level_nodes, same_nodes_to, same_spans, same_trie}
use Rattle.trie_levels.specs.declared.spans.Span.{Span}
use Rattle.trie_levels.specs.Gathering.{longer}
use Rattle.trie_levels.specs.Spans.{by_length, closes, spans_from, spans_of}
use Rattle.trie_levels.specs.Tries.{HasTrie}
use Rattle.trie_levels.proofs.Closing.{filter_yes, level_branches-is}
use Rattle.trie_levels.proofs.Growth.{AreInOrder, in_order-tail, leaves_rest}
use Rattle.trie_levels.proofs.Totals.{branches-le, in_order, level_labels-long, level_nodes-long, partings_law}

-- ---- counts

counts_small : (f : ℕ → ℕ) (xs : List ℕ) → ((n : ℕ) → f n < 2 ^ 32) → All (λ n. n < 2 ^ 32) (map f xs)
counts_small f xs h = All-map (λ n. n < 2 ^ 32) f xs (λ i d within. h (get_or xs i d))

few_nodes_there : (ls : List Leaf) → HasTrie ls → All (λ n. n < 2 ^ 32) (level_nodes ls)
unfolding level_nodes
few_nodes_there ls h = counts_small (λ n. length (level ls n)) (range_with_len 0 (height ls)) (λ n. omega (arith, partings_law ls n h, branches-le ls n (in_order ls h), h.few))

few_labels_there : (ls : List Leaf) → HasTrie ls → All (λ n. n < 2 ^ 32) (level_labels ls)
unfolding level_labels
few_labels_there ls h = counts_small (λ n. length (flat_map (branches ls) (level ls n))) (range_with_len 0 (height ls)) (λ n.
    omega (arith, ap (length {A = List ℕ}) (level_branches-is ls n), branches-le ls n (in_order ls h), h.few))

pub few_nodes : (h r : ℕ) (keys : List (List ℕ)) (counts : List ℕ) → IsKeyList keys → counts ≡ level_nodes (leaves_of h r keys) → AreFewCounts counts
few_nodes h r keys counts k e =
    let ls = base_leaves keys in
    let is = e ∙ same_level_nodes h r keys in
    record { few = omega (arith, ap (length {A = ℕ}) is, level_nodes-long ls, keys_short keys k); small = subst (All (λ n. n < 2 ^ 32)) (sym is) (few_nodes_there ls (keys_have_trie keys k)) }

pub few_labels : (h r : ℕ) (keys : List (List ℕ)) (counts : List ℕ) → IsKeyList keys → counts ≡ level_labels (leaves_of h r keys) → AreFewCounts counts
few_labels h r keys counts k e =
    let ls = base_leaves keys in
    let is = e ∙ same_level_labels h r keys in
    record { few = omega (arith, ap (length {A = ℕ}) is, level_labels-long ls, keys_short keys k); small = subst (All (λ n. n < 2 ^ 32)) (sym is) (few_labels_there ls (keys_have_trie keys k)) }

-- ---- room

node_counts : (ls : List Leaf) (n : ℕ) → n < height ls → get_or (level_nodes ls) n 0 ≡ length (level ls n)
unfolding level_nodes
node_counts ls n h = get_or-map-range_with_len (λ n. length (level ls n)) 0 (height ls) n n 0 h (omega arith)

label_counts : (ls : List Leaf) (n : ℕ) → n < height ls → get_or (level_labels ls) n 0 ≡ length (flat_map (branches ls) (level ls n))
unfolding level_labels
label_counts ls n h = get_or-map-range_with_len (λ n. length (flat_map (branches ls) (level ls n))) 0 (height ls) n n 0 h (omega arith)

nodes_next : (ls : List Leaf) (n : ℕ) → nodes_to ls (suc n) ≡ nodes_to ls n ++ level ls n
unfolding nodes_to
nodes_next ls n = refl

nodes_none : (ls : List Leaf) → nodes_to ls 0 ≡ []
unfolding nodes_to
nodes_none ls = refl

take_next : (xs : List ℕ) (n : ℕ) → n < length xs → sum (take (suc n) xs) ≡ sum (take n xs) + get_or xs n 0
take_next xs n h = ap (λ (k : ℕ). sum (take k xs)) (sym (add-one n)) ∙ sum_by_more (λ (x : ℕ). x) xs n 0 h

nodes_sum : (ls : List Leaf) (n : ℕ) → n ≤ height ls → length (nodes_to ls n) ≡ sum (take n (level_nodes ls))
nodes_sum ls zero h = ap (length {A = List ℕ}) (nodes_none ls)
nodes_sum ls (suc n) h =
    omega (
      arith,
      nodes_sum ls n (omega (arith, h)),
      ap (length {A = List ℕ}) (nodes_next ls n),
      length-append (nodes_to ls n) (level ls n),
      node_counts ls n (omega (arith, h)),
      take_next (level_nodes ls) n (omega (arith, h, level_nodes-long ls)),
    )

branches_long : (ls : List Leaf) (q : List ℕ) → length (node_of ls q) ≡ length (branches ls q)
unfolding node_of
branches_long ls q = let f : List ℕ → Branch = λ r. (last_letter r, is_node ls r) in length-map (branches ls q) f

node_sizes : (ls : List Leaf) (qs : List (List ℕ)) → sum_by (λ (n : Node). length n) (map (node_of ls) qs) ≡ length (flat_map (branches ls) qs)
node_sizes ls [] = refl
node_sizes ls (q ∷ qs) =
    omega (arith, sum_by-cons (λ (n : Node). length n) (node_of ls q) (map (node_of ls) qs), branches_long ls q, node_sizes ls qs, length-append (branches ls q) (flat_map (branches ls) qs))

labels_sum : (ls : List Leaf) (n : ℕ) → n ≤ height ls → sum_by (λ (n : Node). length n) (map (node_of ls) (nodes_to ls n)) ≡ sum (take n (level_labels ls))
labels_sum ls zero h = ap (λ (qs : List (List ℕ)). sum_by (λ (n : Node). length n) (map (node_of ls) qs)) (nodes_none ls)
labels_sum ls (suc n) h =
    omega (
      arith,
      labels_sum ls n (omega (arith, h)),
      ap (λ (qs : List (List ℕ)). sum_by (λ (n : Node). length n) (map (node_of ls) qs)) (nodes_next ls n),
      ap (sum_by (λ (n : Node). length n)) (map-append (node_of ls) (nodes_to ls n) (level ls n)),
      sum_by-append (λ (n : Node). length n) (map (node_of ls) (nodes_to ls n)) (map (node_of ls) (level ls n)),
      node_sizes ls (level ls n),
      label_counts ls n (omega (arith, h)),
      take_next (level_labels ls) n (omega (arith, h, level_labels-long ls)),
    )

-- the nodes of the dense levels
pub dense_room : (h r : ℕ) (keys : List (List ℕ)) (counts : List ℕ) (c : ℕ) → counts ≡ level_nodes (leaves_of h r keys) → c ≤ height (base_leaves keys)
    → sum_by (λ (n : Node). 1) (map (node_of (base_leaves keys)) (nodes_to (base_leaves keys) c)) ≤ sum (take c counts)
dense_room h r keys counts c e tall =
    let ls = base_leaves keys in
    omega (
      arith,
      one_each (map (node_of ls) (nodes_to ls c)),
      length-map (nodes_to ls c) (node_of ls),
      nodes_sum ls c tall,
      ap (λ (xs : List ℕ). sum (take c xs)) (e ∙ same_level_nodes h r keys),
    )

-- and the labels of the sparse ones
pub sparse_room : (h r : ℕ) (keys : List (List ℕ)) (counts : List ℕ) (c top : ℕ) (before : Before) → counts ≡ level_labels (leaves_of h r keys) → c ≤ height (base_leaves keys) → top ≡ height (base_leaves keys)
    → before.nodes ≡ length (nodes_to (base_leaves keys) c) → sum_by (λ (n : Node). length n) (nodes_behind keys top before) ≤ sum (drop c counts)
sparse_room h r keys counts c top before e tall at start =
    let ls = base_leaves keys in
    let f = node_of ls in
    let b = levels_within ls c (height ls) tall in
    let long : before.nodes ≡ length (map f (nodes_to ls c)) = omega (arith, start, length-map (nodes_to ls c) f) in
    let whole : map f (nodes_to ls (height ls)) ≡ map f (nodes_to ls c) ++ map f b.rest = ap (map f) b.is ∙ map-append f (nodes_to ls c) b.rest in
    let behind : nodes_behind keys top before ≡ map f b.rest =
    ap (λ (n : ℕ). drop before.nodes (map f (nodes_to ls n))) at ∙ ap (drop before.nodes) whole
    ∙ ap (λ (n : ℕ). drop n (map f (nodes_to ls c) ++ map f b.rest)) long ∙ drop-append_seam (map f (nodes_to ls c)) (map f b.rest) in
    let all = level_labels ls in
    omega (
      arith,
      ap (sum_by (λ (n : Node). length n)) behind,
      ap (sum_by (λ (n : Node). length n)) whole,
      sum_by-append (λ (n : Node). length n) (map f (nodes_to ls c)) (map f b.rest),
      labels_sum ls c tall,
      labels_sum ls (height ls) (omega arith),
      ap sum (take_all (height ls) all (omega (arith, level_labels-long ls))),
      sum_by-append (λ (x : ℕ). x) (take c all) (drop c all),
      ap sum (take-append-drop c all),
      ap (λ (xs : List ℕ). sum (drop c xs)) (e ∙ same_level_labels h r keys),
    )

-- ---- at the start all leaves are to come

all_longer : (k : ℕ) (ls : List Leaf) → AreInOrder ls → longer 0 (spans_from k ls) ≡ spans_from k ls
all_longer k [] h = refl
all_longer k (l ∷ ls) h =
    filter_yes (λ (s : Span). nat_lt 0 s.len) (record { leaf = k; closes = closes l ls; len = length (path l) }) (spans_from (suc k) ls) (lt-ltb 0 (length (path l)) (omega (arith, (leaves_rest l ls h).inside)))
    ∙ ap (λ (ss : List Span). record { leaf = k; closes = closes l ls; len = length (path l) } ∷ ss) (all_longer (suc k) ls (in_order-tail l ls h))

spans_long : (k : ℕ) (ls : List Leaf) → length (spans_from k ls) ≡ length ls
spans_long k [] = refl
spans_long k (l ∷ ls) = omega (arith, spans_long (suc k) ls)

pub all_pending : (h r : ℕ) (keys : List (List ℕ)) (spans : List Span) (p : Pending) → IsKeyList keys → h ≤ 32 → r ≤ 32 → spans ≡ spans_of (leaves_of h r keys) → IsNew h r spans p → ArePending keys 0 p
all_pending h r keys spans p k hw rw e new =
    let ls = base_leaves keys in
    let is = e ∙ same_spans h r keys in
    record {
      spans_are = new.spans_are ∙ is ∙ sym (all_longer 0 ls (in_order ls (keys_have_trie keys k)));
      suffixes_are =
          new.suffixes_are
          ∙ (λ i. record { array = record { hash_bits = sym new.hash_bits_are i; real_bits = sym new.real_bits_are i; slots = [] }; limit = count i });
      hash_width = omega (arith, new.hash_bits_are, hw);
      real_width = omega (arith, new.real_bits_are, rw);
    }
  where
    count : length spans ≡ length keys
    count = omega (arith, ap (length {A = Span}) e, spans_long 0 (leaves_of h r keys), length-map keys (leaf_of h r keys))

-- ---- the parts

record AreCut (h r : ℕ) (keys : List (List ℕ)) (c : ℕ) : Type 0 where
  rest : List (List ℕ)
  above : map (node_of (base_leaves keys)) (nodes_to (base_leaves keys) c) ≡ upper c (leaves_of h r keys)
  below : map (node_of (base_leaves keys)) rest ≡ lower c (leaves_of h r keys)
  both : nodes_to (base_leaves keys) (height (base_leaves keys)) ≡ nodes_to (base_leaves keys) c ++ rest

are_cut : (h r : ℕ) (keys : List (List ℕ)) (c : ℕ) → c ≤ height (base_leaves keys) → AreCut h r keys c
unfolding trie_of nodes
are_cut h r keys c tall =
    let ls = base_leaves keys in
    let f = node_of ls in
    let b = levels_within ls c (height ls) tall in
    let whole : trie_of (leaves_of h r keys) ≡ map f (nodes_to ls c) ++ map f b.rest = same_trie h r keys ∙ ap (map f) b.is ∙ map-append f (nodes_to ls c) b.rest in
    let start : length (nodes_to (leaves_of h r keys) c) ≡ length (map f (nodes_to ls c)) = ap (length {A = List ℕ}) (same_nodes_to h r keys c) ∙ sym (length-map (nodes_to ls c) f) in
    record {
      rest = b.rest;
      above = sym ((λ i. take (start i) (whole i)) ∙ take-append_seam (map f (nodes_to ls c)) (map f b.rest));
      below = sym ((λ i. drop (start i) (whole i)) ∙ drop-append_seam (map f (nodes_to ls c)) (map f b.rest));
      both = b.is;
    }

packed_are : (h r : ℕ) (keys : List (List ℕ)) → IsKeyList keys → r ≤ 32 → (top : ℕ) → top ≡ height (leaves_of h r keys) → array_bits (suffixes_passed keys h r top).array ≡ suffixes h r (leaves_of h r keys)
packed_are h r keys k small top at =
    let ls = leaves_of h r keys in
    ap (λ (n : ℕ). packed_suffixes h r (map leaf_suffix (by_length n ls))) at
    ∙ ap (λ (xs : List Leaf). packed_suffixes h r (map leaf_suffix xs)) (sym (slots_by_length ls (valid_lists_have_tries h r ls (leaves_are_listed h r keys small k))))

abbrev pub image_of : (h r c : ℕ) → List (List ℕ) → Filter
image_of h r c keys = record { hash_bits = h; real_bits = r; cutoff = c; leaves = leaves_of h r keys }

pub are_parts : (h r : ℕ) (keys : List (List ℕ)) (c top : ℕ) (dense : List Node) (sparse : Half) (array : SuffixArray) → IsKeyList keys → h ≤ 32 → r ≤ 32 → c ≤ height (base_leaves keys) → top ≡ height (base_leaves keys)
    → dense ≡ map (node_of (base_leaves keys)) (nodes_to (base_leaves keys) c) → sparse ≡ half_to keys top (counts_of dense) → array ≡ (suffixes_passed keys h r top).array
    → AreParts (image_of h r c keys) c top dense sparse array
are_parts h r keys c top dense sparse array k hw rw tall at d s a =
    let ls = base_leaves keys in
    let f = node_of ls in
    let cut = are_cut h r keys c tall in
    let full = leaves_of h r keys in
    let dense_is : dense ≡ upper c full = d ∙ cut.above in
    let long : length dense ≡ length (map f (nodes_to ls c)) = ap (length {A = Node}) d in
    let behind : nodes_behind keys top (counts_of dense) ≡ map f cut.rest =
    ap (λ (n : ℕ). drop (length dense) (map f (nodes_to ls n))) at ∙ ap (λ (qs : List (List ℕ)). drop (length dense) (map f qs)) cut.both ∙ ap (drop (length dense)) (map-append f (nodes_to ls c) cut.rest)
    ∙ ap (λ (n : ℕ). drop n (map f (nodes_to ls c) ++ map f cut.rest)) long ∙ drop-append_seam (map f (nodes_to ls c)) (map f cut.rest) in
    let top_is : top ≡ height full = at ∙ sym (same_height h r keys) in
    let valid = leaves_are_listed h r keys rw k in
    let t = valid_lists_have_tries h r full valid in
    record {
      may_stand = record { hash_width = hw; real_width = rw; cutoff_in = omega (arith, tall, same_height h r keys); valid = valid };
      cutoff_is = refl;
      levels_are = top_is;
      dense_is = dense_is;
      sparse_is = s ∙ (λ i. record { before = counts_of (dense_is i); nodes = (behind ∙ cut.below) i });
      hash_bits_are = ap (λ (x : SuffixArray). x.hash_bits) a;
      real_bits_are = ap (λ (x : SuffixArray). x.real_bits) a;
      count_is = omega (
        arith,
        ap (λ (x : SuffixArray). length x.slots) a,
        length-map (by_length top full) leaf_suffix,
        ap (λ (n : ℕ). length (by_length n full)) top_is,
        ap (length {A = Leaf}) (slots_by_length full t),
        ap (length {A = List ℕ}) (leaves_have_slots full t).leaf_of_slot,
        length-map (in_slots full) path,
        (leaves_have_slots full t).as_many,
      );
      suffixes_are = ap array_bits a ∙ packed_are h r keys k rw top top_is;
    }

pub no_nodes : (ls : List Leaf) → map (node_of ls) (nodes_to ls 0) ≡ []
no_nodes ls = ap (map (node_of ls)) (nodes_none ls)

pub tall_nodes : (ls : List Leaf) (counts : List ℕ) → counts ≡ level_nodes ls → length counts ≡ height ls
tall_nodes ls counts e = ap (length {A = ℕ}) e ∙ level_nodes-long ls

pub tall_labels : (ls : List Leaf) (counts : List ℕ) → counts ≡ level_labels ls → length counts ≡ height ls
tall_labels ls counts e = ap (length {A = ℕ}) e ∙ level_labels-long ls
