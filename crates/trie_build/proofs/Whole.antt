-- The halves that were built are those of their trie.
use Rattle.std.proofs.Common.{◌≡◌, ◌<◌, ◌≤◌, ◌+◌, ◌^◌, ℕ, zero, suc, nat_lt, cond, List, [], ◌∷◌, ◌++◌, length, get_or, take, drop, map, refl, sym, ap, subst, ◌∙◌, arith, add-one, inl, inr}
use Rattle.std.specs.Prelude.{flat_map, sum, sum_by}
use Rattle.std.specs.List.{All, range_with_len}
use Rattle.std.proofs.Math.Seq.{take-append_seam, drop-append_seam}
use Rattle.std.proofs.lemmas.Bool.{cases_lt, le-ltb, lt-ltb}
use Rattle.std.proofs.lemmas.List.{drop_all, length-append, length-map, map-append, take-append-drop, take_all}
use Rattle.std.proofs.lemmas.List.FromFn.{get_or-map-range_with_len}
use Rattle.std.proofs.lemmas.List.Sums.{sum_by-append, sum_by-cons, sum_by_more}
use Rattle.std.proofs.lemmas.List.Elements.{All-map}
use Rattle.filter_model.specs.Leaves.{Leaf}
use Rattle.filter_model.specs.Nodes.{Branch, Node, all, last_letter, node_of, trie_of}
use Rattle.filter_model.specs.Trie.{branches, height, is_node, level, level_labels, level_nodes, nodes, nodes_to, path}
use Rattle.louds_dense.specs.Building.{NodesInRoom}
use Rattle.louds_dense.specs.Places.{counts_of}
use Rattle.louds_sparse.specs.Building.{HalfInRoom}
use Rattle.trie_build.specs.Building.{AreFewCounts, IsPlanned, MayGrow, first_levels, half_to, nodes_behind, other_levels, spans_longer}
use Rattle.trie_build.proofs.Levels.{levels_within, paths_short}
use Rattle.trie_build.proofs.Sizes.{branches_of, one_each}
use Rattle.trie_laws.specs.Halves.{second_half}
use Rattle.trie_levels.proofs.Closing.{filter_no, filter_yes, level_branches-is}
use Rattle.trie_levels.proofs.Growth.{AreInOrder, in_order-tail, leaves_rest}
use Rattle.trie_levels.proofs.Totals.{branches-le, in_order, level_labels-long, level_nodes-long, partings_law}
use Rattle.trie_levels.specs.Counts.{Counts}
use Rattle.trie_levels.specs.Gathering.{longer}
use Rattle.trie_levels.specs.Spans.{closes, spans_from, spans_of}
use Rattle.trie_levels.specs.Tries.{HasTrie}
use Rattle.trie_levels.specs.declared.spans.Span.{Span}
use Rattle.trie_model.specs.Halves.{Half, whole}
use Rattle.trie_model.specs.declared.parts.Before.{Before}

-- ---- counts

counts_small : (f : ℕ → ℕ) (xs : List ℕ) → ((n : ℕ) → f n < 2 ^ 32) → All (λ n. n < 2 ^ 32) (map f xs)
counts_small f xs h = All-map (λ n. n < 2 ^ 32) f xs (λ i d within. h (get_or xs i d))

few_nodes_there : (ls : List Leaf) → HasTrie ls → All (λ n. n < 2 ^ 32) (level_nodes ls)
unfolding level_nodes
few_nodes_there ls h = counts_small (λ n. length (level ls n)) (range_with_len 0 (height ls)) (λ n. omega (arith, partings_law ls n h, branches-le ls n (in_order ls h), h.few))

few_labels_there : (ls : List Leaf) → HasTrie ls → All (λ n. n < 2 ^ 32) (level_labels ls)
unfolding level_labels
few_labels_there ls h = counts_small (λ n. length (flat_map (branches ls) (level ls n))) (range_with_len 0 (height ls)) (λ n.
    omega (arith, ap (length {A = List ℕ}) (level_branches-is ls n), branches-le ls n (in_order ls h), h.few))

pub few_nodes : (ls : List Leaf) (counts : List ℕ) → HasTrie ls → counts ≡ level_nodes ls → AreFewCounts counts
few_nodes ls counts t e =
    record { few = omega (arith, ap (length {A = ℕ}) e, level_nodes-long ls, paths_short ls t); small = subst (All (λ n. n < 2 ^ 32)) (sym e) (few_nodes_there ls t) }

pub few_labels : (ls : List Leaf) (counts : List ℕ) → HasTrie ls → counts ≡ level_labels ls → AreFewCounts counts
few_labels ls counts t e =
    record { few = omega (arith, ap (length {A = ℕ}) e, level_labels-long ls, paths_short ls t); small = subst (All (λ n. n < 2 ^ 32)) (sym e) (few_labels_there ls t) }

-- ---- room

node_counts : (ls : List Leaf) (n : ℕ) → n < height ls → get_or (level_nodes ls) n 0 ≡ length (level ls n)
unfolding level_nodes
node_counts ls n h = get_or-map-range_with_len (λ n. length (level ls n)) 0 (height ls) n n 0 h (omega arith)

label_counts : (ls : List Leaf) (n : ℕ) → n < height ls → get_or (level_labels ls) n 0 ≡ length (flat_map (branches ls) (level ls n))
unfolding level_labels
label_counts ls n h = get_or-map-range_with_len (λ n. length (flat_map (branches ls) (level ls n))) 0 (height ls) n n 0 h (omega arith)

nodes_next : (ls : List Leaf) (n : ℕ) → nodes_to ls (suc n) ≡ nodes_to ls n ++ level ls n
unfolding nodes_to
nodes_next ls n = refl

nodes_none : (ls : List Leaf) → nodes_to ls 0 ≡ []
unfolding nodes_to
nodes_none ls = refl

take_next : (xs : List ℕ) (n : ℕ) → n < length xs → sum (take (suc n) xs) ≡ sum (take n xs) + get_or xs n 0
take_next xs n h = ap (λ (k : ℕ). sum (take k xs)) (sym (add-one n)) ∙ sum_by_more (λ (x : ℕ). x) xs n 0 h

nodes_sum : (ls : List Leaf) (n : ℕ) → n ≤ height ls → length (nodes_to ls n) ≡ sum (take n (level_nodes ls))
nodes_sum ls zero h = ap (length {A = List ℕ}) (nodes_none ls)
nodes_sum ls (suc n) h =
    omega (
      arith,
      nodes_sum ls n (omega (arith, h)),
      ap (length {A = List ℕ}) (nodes_next ls n),
      length-append (nodes_to ls n) (level ls n),
      node_counts ls n (omega (arith, h)),
      take_next (level_nodes ls) n (omega (arith, h, level_nodes-long ls)),
    )

branches_long : (ls : List Leaf) (q : List ℕ) → length (node_of ls q) ≡ length (branches ls q)
unfolding node_of
branches_long ls q = let f : List ℕ → Branch = λ r. (last_letter r, is_node ls r) in length-map (branches ls q) f

node_sizes : (ls : List Leaf) (qs : List (List ℕ)) → sum_by (λ (n : Node). length n) (map (node_of ls) qs) ≡ length (flat_map (branches ls) qs)
node_sizes ls [] = refl
node_sizes ls (q ∷ qs) =
    omega (arith, sum_by-cons (λ (n : Node). length n) (node_of ls q) (map (node_of ls) qs), branches_long ls q, node_sizes ls qs, length-append (branches ls q) (flat_map (branches ls) qs))

labels_sum : (ls : List Leaf) (n : ℕ) → n ≤ height ls → sum_by (λ (n : Node). length n) (map (node_of ls) (nodes_to ls n)) ≡ sum (take n (level_labels ls))
labels_sum ls zero h = ap (λ (qs : List (List ℕ)). sum_by (λ (n : Node). length n) (map (node_of ls) qs)) (nodes_none ls)
labels_sum ls (suc n) h =
    omega (
      arith,
      labels_sum ls n (omega (arith, h)),
      ap (λ (qs : List (List ℕ)). sum_by (λ (n : Node). length n) (map (node_of ls) qs)) (nodes_next ls n),
      ap (sum_by (λ (n : Node). length n)) (map-append (node_of ls) (nodes_to ls n) (level ls n)),
      sum_by-append (λ (n : Node). length n) (map (node_of ls) (nodes_to ls n)) (map (node_of ls) (level ls n)),
      node_sizes ls (level ls n),
      label_counts ls n (omega (arith, h)),
      take_next (level_labels ls) n (omega (arith, h, level_labels-long ls)),
    )

-- the nodes of the dense levels
pub dense_room : (ls : List Leaf) (counts : List ℕ) (c : ℕ) → counts ≡ level_nodes ls → c ≤ height ls → sum_by (λ (n : Node). 1) (map (node_of ls) (nodes_to ls c)) ≤ sum (take c counts)
dense_room ls counts c e tall =
    omega (
      arith,
      one_each (map (node_of ls) (nodes_to ls c)),
      length-map (nodes_to ls c) (node_of ls),
      nodes_sum ls c tall,
      ap (λ (xs : List ℕ). sum (take c xs)) e,
    )

-- the nodes of the other levels are behind those of the first
pub record AreOthers (ls : List Leaf) (c top : ℕ) (before : Before) : Type 0 where
  pub rest : List (List ℕ)
  pub both : nodes_to ls (height ls) ≡ nodes_to ls c ++ rest
  pub behind : nodes_behind ls top before ≡ map (node_of ls) rest

pub are_others : (ls : List Leaf) (c top : ℕ) (before : Before) → c ≤ height ls → top ≡ height ls → before.nodes ≡ length (nodes_to ls c) → AreOthers ls c top before
are_others ls c top before tall at start =
    let f = node_of ls in
    let b = levels_within ls c (height ls) tall in
    let long : before.nodes ≡ length (map f (nodes_to ls c)) = omega (arith, start, length-map (nodes_to ls c) f) in
    record {
      rest = b.rest;
      both = b.is;
      behind =
          ap (λ (n : ℕ). drop before.nodes (map f (nodes_to ls n))) at ∙ ap (λ (qs : List (List ℕ)). drop before.nodes (map f qs)) b.is ∙ ap (drop before.nodes) (map-append f (nodes_to ls c) b.rest)
          ∙ ap (λ (n : ℕ). drop n (map f (nodes_to ls c) ++ map f b.rest)) long ∙ drop-append_seam (map f (nodes_to ls c)) (map f b.rest);
    }

-- and the labels of the sparse ones
pub sparse_room : (ls : List Leaf) (counts : List ℕ) (c top : ℕ) (before : Before) → counts ≡ level_labels ls → c ≤ height ls → top ≡ height ls → before.nodes ≡ length (nodes_to ls c)
    → sum_by (λ (n : Node). length n) (nodes_behind ls top before) ≤ sum (drop c counts)
sparse_room ls counts c top before e tall at start =
    let f = node_of ls in
    let o = are_others ls c top before tall at start in
    let all = level_labels ls in
    omega (
      arith,
      ap (sum_by (λ (n : Node). length n)) o.behind,
      ap (λ (qs : List (List ℕ)). sum_by (λ (n : Node). length n) (map f qs)) o.both,
      ap (sum_by (λ (n : Node). length n)) (map-append f (nodes_to ls c) o.rest),
      sum_by-append (λ (n : Node). length n) (map f (nodes_to ls c)) (map f o.rest),
      labels_sum ls c tall,
      labels_sum ls (height ls) (omega arith),
      ap sum (take_all (height ls) all (omega (arith, level_labels-long ls))),
      sum_by-append (λ (x : ℕ). x) (take c all) (drop c all),
      ap sum (take-append-drop c all),
      ap (λ (xs : List ℕ). sum (drop c xs)) e,
    )

-- ---- at the start all leaves are to come

all_longer : (k : ℕ) (ls : List Leaf) → AreInOrder ls → longer 0 (spans_from k ls) ≡ spans_from k ls
all_longer k [] h = refl
all_longer k (l ∷ ls) h =
    filter_yes (λ (s : Span). nat_lt 0 s.len) (record { leaf = k; closes = closes l ls; len = length (path l) }) (spans_from (suc k) ls) (lt-ltb 0 (length (path l)) (omega (arith, (leaves_rest l ls h).inside)))
    ∙ ap (λ (ss : List Span). record { leaf = k; closes = closes l ls; len = length (path l) } ∷ ss) (all_longer (suc k) ls (in_order-tail l ls h))

pub all_spans : (ls : List Leaf) (spans : List Span) → HasTrie ls → spans ≡ spans_of ls → spans ≡ spans_longer ls 0
all_spans ls spans t e = e ∙ sym (all_longer 0 ls (in_order ls t))

-- what is longer by a letter more
pub longer_still : (n : ℕ) (ss : List Span) → longer (n + 1) (longer n ss) ≡ longer (n + 1) ss
longer_still n [] = refl
longer_still n (s ∷ ss) = elim (cases_lt n s.len) [
  | inr past ↦
      ap (longer (n + 1)) (filter_no (λ (s : Span). nat_lt n s.len) s ss (le-ltb n s.len past))
      ∙ longer_still n ss ∙ sym (filter_no (λ (s : Span). nat_lt (n + 1) s.len) s ss (le-ltb (n + 1) s.len (omega (arith, past))))
  | inl on ↦
      ap (longer (n + 1)) (filter_yes (λ (s : Span). nat_lt n s.len) s ss (lt-ltb n s.len on))
      ∙ ap (λ (r : List Span). cond (nat_lt (n + 1) s.len) (s ∷ r) r) (longer_still n ss)
]

-- ---- the halves

whole_trie : (ls : List Leaf) → trie_of ls ≡ map (node_of ls) (nodes_to ls (height ls))
unfolding trie_of nodes
whole_trie ls = refl

pub first_are : (ls : List Leaf) (c : ℕ) → c ≤ height ls → map (node_of ls) (nodes_to ls c) ≡ first_levels c ls
first_are ls c tall =
    let f = node_of ls in
    let b = levels_within ls c (height ls) tall in
    let whole : trie_of ls ≡ map f (nodes_to ls c) ++ map f b.rest = whole_trie ls ∙ ap (map f) b.is ∙ map-append f (nodes_to ls c) b.rest in
    sym ((λ i. take (sym (length-map (nodes_to ls c) f) i) (whole i)) ∙ take-append_seam (map f (nodes_to ls c)) (map f b.rest))

pub others_are : (ls : List Leaf) (c top : ℕ) (dense : List Node) (sparse : Half) → c ≤ height ls → top ≡ height ls → dense ≡ map (node_of ls) (nodes_to ls c) → sparse ≡ half_to ls top (counts_of dense)
    → sparse ≡ second_half (first_levels c ls) (other_levels c ls)
others_are ls c top dense sparse tall at d s =
    let f = node_of ls in
    let o = are_others ls c top (counts_of dense) tall at (ap (length {A = Node}) d ∙ length-map (nodes_to ls c) f) in
    let whole : trie_of ls ≡ map f (nodes_to ls c) ++ map f o.rest = whole_trie ls ∙ ap (map f) o.both ∙ map-append f (nodes_to ls c) o.rest in
    let rest : map f o.rest ≡ other_levels c ls = sym ((λ i. drop (sym (length-map (nodes_to ls c) f) i) (whole i)) ∙ drop-append_seam (map f (nodes_to ls c)) (map f o.rest)) in
    s ∙ (λ i. record { before = counts_of ((d ∙ first_are ls c tall) i); nodes = (o.behind ∙ rest) i })

pub no_nodes : (ls : List Leaf) → map (node_of ls) (nodes_to ls 0) ≡ []
no_nodes ls = ap (map (node_of ls)) (nodes_none ls)

pub tall_nodes : (ls : List Leaf) (counts : List ℕ) → counts ≡ level_nodes ls → length counts ≡ height ls
tall_nodes ls counts e = ap (length {A = ℕ}) e ∙ level_nodes-long ls

pub tall_labels : (ls : List Leaf) (counts : List ℕ) → counts ≡ level_labels ls → length counts ≡ height ls
tall_labels ls counts e = ap (length {A = ℕ}) e ∙ level_labels-long ls

-- how many nodes are dense, and how many labels sparse
pub first_size : (ls : List Leaf) (counts : List ℕ) (c : ℕ) → counts ≡ level_nodes ls → c ≤ height ls → sum (take c counts) ≡ length (first_levels c ls)
first_size ls counts c e tall =
    ap (λ (xs : List ℕ). sum (take c xs)) e ∙ sym (nodes_sum ls c tall) ∙ sym (length-map (nodes_to ls c) (node_of ls)) ∙ ap (length {A = Node}) (first_are ls c tall)

pub others_size : (ls : List Leaf) (counts : List ℕ) (c : ℕ) → counts ≡ level_labels ls → c ≤ height ls → sum (drop c counts) ≡ length (all (other_levels c ls))
others_size ls counts c e tall =
    let f = node_of ls in
    let size : List Node → ℕ = sum_by (λ (n : Node). length n) in
    let b = levels_within ls c (height ls) tall in
    let whole : trie_of ls ≡ map f (nodes_to ls c) ++ map f b.rest = whole_trie ls ∙ ap (map f) b.is ∙ map-append f (nodes_to ls c) b.rest in
    let rest : map f b.rest ≡ other_levels c ls = sym ((λ i. drop (sym (length-map (nodes_to ls c) f) i) (whole i)) ∙ drop-append_seam (map f (nodes_to ls c)) (map f b.rest)) in
    let labels = level_labels ls in
    omega (
      arith,
      ap (λ (xs : List ℕ). sum (drop c xs)) e,
      sum_by-append (λ (x : ℕ). x) (take c labels) (drop c labels),
      ap sum (take-append-drop c labels),
      ap sum (take_all (height ls) labels (omega (arith, level_labels-long ls))),
      labels_sum ls c tall,
      labels_sum ls (height ls) (omega arith),
      ap size (sym (whole_trie ls) ∙ whole),
      sum_by-append (λ (n : Node). length n) (map f (nodes_to ls c)) (map f b.rest),
      ap size rest,
      branches_of (other_levels c ls),
    )

-- ---- what a build may do

-- at its start
pub may_begin : (keys : List (List ℕ)) (ls : List Leaf) (spans : List Span) (counts : Counts) (c n : ℕ) (b : NodesInRoom) → IsPlanned keys ls spans counts c → n ≡ sum (take c counts.nodes) → b ≡ record { nodes = []; limit = n }
    → MayGrow keys ls 0 c (whole b.nodes) (λ (n : Node). 1) b.limit spans
may_begin keys ls spans counts c n b p room is = record {
  cut = p.cut;
  order = omega arith;
  within = p.cutoff_in;
  before = omega arith;
  nodes = ap (λ (b : NodesInRoom). b.nodes) is ∙ sym (no_nodes ls);
  room = omega (arith, dense_room ls counts.nodes c p.nodes_are p.cutoff_in, room, ap (λ (b : NodesInRoom). b.limit) is);
  spans_are = all_spans ls spans p.cut.trie p.spans_are;
}

-- and at the cutoff
pub may_go_on : (keys : List (List ℕ)) (ls : List Leaf) (spans longer : List Span) (counts : Counts) (c n top : ℕ) (dense : List Node) (before : Before) (b : HalfInRoom) → IsPlanned keys ls spans counts c → n ≡ sum (drop c counts.labels) → top ≡ height ls
    → dense ≡ map (node_of ls) (nodes_to ls c) → before ≡ counts_of dense → b ≡ record { half = record { before = before; nodes = [] }; limit = n } → longer ≡ spans_longer ls c
    → MayGrow keys ls c top b.half (λ (n : Node). length n) b.limit longer
may_go_on keys ls spans longer counts c n top dense before b p room at d s is spans_are =
    let start : b.half.before.nodes ≡ length dense = ap (λ (b : HalfInRoom). b.half.before.nodes) is ∙ ap (λ (b : Before). b.nodes) s in
    let long : b.half.before.nodes ≡ length (nodes_to ls c) = omega (arith, start, ap (length {A = Node}) d, length-map (nodes_to ls c) (node_of ls)) in
    record {
      cut = p.cut;
      order = omega (arith, p.cutoff_in, at);
      within = omega (arith, at);
      before = omega (arith, long);
      nodes = ap (λ (b : HalfInRoom). b.half.nodes) is ∙ sym (drop_all b.half.before.nodes (map (node_of ls) (nodes_to ls c)) (omega (arith, long, length-map (nodes_to ls c) (node_of ls))));
      room = omega (arith, sparse_room ls counts.labels c top b.half.before p.labels_are p.cutoff_in at long, room, ap (λ (b : HalfInRoom). b.limit) is);
      spans_are = spans_are;
    }

-- a half of which the nodes and what is before them are known
pub half_is : (h : Half) (ns : List Node) (before : Before) → h.before ≡ before → h.nodes ≡ ns → h ≡ record { before = before; nodes = ns }
half_is h ns before b e = λ i. record { before = b i; nodes = e i }
