-- What the sections say of the nodes that they spell.
use Rattle.std.proofs.Common.{◌≡◌, ℕ, suc, ◌+◌, ◌*◌, ◌/◌, ◌%◌, ◌<◌, ◌≤◌, Bool, true, false, cond, Some, None, List, [], ◌∷◌, length, get_or, take, refl, ap, subst, sym, ◌∙◌, arith, inl, inr}
use Rattle.std.specs.Prelude.{count_by, is_some, not}
use Rattle.std.proofs.lemmas.Bool.{cases_lt, true≢false}
use Rattle.std.proofs.lemmas.List.{get_or-map, length-map, length-take-le, take_all}
use Rattle.std.proofs.lemmas.List.Sums.{count_by-le-length, sum_by-take-le}
use Rattle.bit_words.specs.Counts.{rank_of}
use Rattle.filter_model.specs.Image.{dense_children, dense_ends, dense_labels, has_child, has_letter}
use Rattle.filter_model.specs.Nodes.{Branch, Node, all, children_before, first_place, leaves_before}
use Rattle.filter_model.specs.Trie.{END}
use Rattle.louds_dense.specs.Places.{branch_place, branches_before, child_at, counts_of, end_slot, first_below, node_at, node_slot, slot_at}
use Rattle.louds_dense.specs.Spelling.{IsSpelled}
use Rattle.louds_dense.proofs.Nodes.{count-cons}
use Rattle.louds_dense.proofs.Ranks.{AreRanked, before_within, length-rows, node_within, ranks_at, ranks_of_node, rows_at}

both_counts : {X : Type 0} (p : X → Bool) (xs : List X) → count_by p xs + count_by (λ x. not (p x)) xs ≡ length xs
both_counts p [] = refl
both_counts p (x ∷ xs) = step (p x) _ _ _ (both_counts p xs) (count-cons p x xs) (count-cons (λ y. not (p y)) x xs)
  where
    step : (b : Bool) (m n k : ℕ) {m' n' : ℕ} → m + n ≡ k → m' ≡ cond b 1 0 + m → n' ≡ cond (not b) 1 0 + n → m' + n' ≡ suc k
    step true m n k e f g = omega (arith, e, f, g)
    step false m n k e f g = omega (arith, e, f, g)

-- of the first q branches those that lead to a node and the leaves
pub counts_add : (ns : List Node) (q : ℕ) → q ≤ length (all ns) → children_before ns q + leaves_before ns q ≡ q
counts_add ns q l = both_counts (λ (b : Branch). b.1) (take q (all ns)) ∙ length-take-le q (all ns) l

-- leaves, by the sum that counts them
pub leaves_are : (ns : List Node) (p k q slot : ℕ) → AreRanked ns p k q → q ≤ length (all ns)
    → slot + rank_of (dense_children ns) p ≡ rank_of (dense_labels ns) p + rank_of (dense_ends ns) k → slot ≡ leaves_before ns q
leaves_are ns p k q slot r l sum = sums (rank_of (dense_children ns) p) (rank_of (dense_labels ns) p) (rank_of (dense_ends ns) k) (children_before ns q) (leaves_before ns q) q slot sum r.letters r.below (counts_add ns q l)
  where
    sums : (c a b d m q slot : ℕ) → slot + c ≡ a + b → a + b ≡ q → c ≡ d → d + m ≡ q → slot ≡ m
    sums c a b d m q slot e f g h = omega (arith, e, f, g, h)

pub covered : (ns : List Node) (p k q : ℕ) → AreRanked ns p k q → q ≤ length (all ns) → rank_of (dense_children ns) p ≤ rank_of (dense_labels ns) p + rank_of (dense_ends ns) k
covered ns p k q r l = less (rank_of (dense_children ns) p) (rank_of (dense_labels ns) p) (rank_of (dense_ends ns) k) (children_before ns q) (leaves_before ns q) q r.letters r.below (counts_add ns q l)
  where
    less : (c a b d m q : ℕ) → a + b ≡ q → c ≡ d → d + m ≡ q → c ≤ a + b
    less c a b d m q e f g = omega (arith, e, f, g)

some_if : (b : Bool) (n : ℕ) → is_some (cond b (Some n) None) ≡ b
some_if true n = refl
some_if false n = refl

-- the node that a place leads to, by whether it leads to one
pub led_some : (ns : List Node) (p below : ℕ) → below ≡ first_below ns p → is_some (child_at ns p) ≡ true → Some below ≡ child_at ns p
led_some ns p below e on = go (has_child (node_at ns (p / 256)) (p % 256)) on
  where
    go : (b : Bool) → is_some (cond b (Some (first_below ns p)) None) ≡ true → Some below ≡ cond b (Some (first_below ns p)) None
    go true h = ap (λ (k : ℕ). Some k) e
    go false h = absurd (true≢false (sym h))

pub led_none : (ns : List Node) (p : ℕ) → is_some (child_at ns p) ≡ false → None ≡ child_at ns p
led_none ns p off = go (has_child (node_at ns (p / 256)) (p % 256)) off
  where
    go : (b : Bool) → is_some (cond b (Some (first_below ns p)) None) ≡ false → None ≡ cond b (Some (first_below ns p)) None
    go true h = absurd (true≢false h)
    go false h = refl

module _ {labels children ends : List Bool} {ns : List Node} (s : IsSpelled labels children ends ns) where
  pub length_labels : length labels ≡ 256 * length ns
  length_labels = ap length s.labels_are ∙ length-rows (λ n. has_letter n) ns

  pub length_children : length children ≡ 256 * length ns
  length_children = ap length s.children_are ∙ length-rows (λ n. has_child n) ns

  pub length_ends : length ends ≡ length ns
  length_ends = ap length s.ends_are ∙ length-map ns (λ (n : Node). has_letter n END)

  pub label_bit : (v c p : ℕ) → v < length ns → c < 256 → 256 * v + c ≡ p → get_or labels p false ≡ has_letter (node_at ns v) c
  label_bit v c p l f e = ap (λ (bits : List Bool). get_or bits p false) s.labels_are ∙ rows_at (λ n. has_letter n) ns v c p l f e

  pub child_bit : (p : ℕ) → p < 256 * length ns → get_or children p false ≡ has_child (node_at ns (p / 256)) (p % 256)
  child_bit p l = ap (λ (bits : List Bool). get_or bits p false) s.children_are ∙ rows_at (λ n. has_child n) ns (p / 256) (p % 256) p (omega (arith, l)) (omega arith) (omega arith)

  pub end_bit : (v : ℕ) → v < length ns → get_or ends v false ≡ has_letter (node_at ns v) END
  end_bit v l = ap (λ (bits : List Bool). get_or bits v false) s.ends_are ∙ get_or-map (λ (n : Node). has_letter n END) ns v [] false l

  -- the set bits for END are those of the nodes
  pub ends_to : (k n : ℕ) → n ≡ rank_of ends k → n ≡ rank_of (dense_ends ns) k
  ends_to k n e = e ∙ ap (λ (bits : List Bool). rank_of bits k) s.ends_are

  pub few_ends : (k n : ℕ) → n ≡ rank_of ends k → n ≤ length ns
  few_ends k n e = omega (arith, e, length_ends, count_by-le-length (λ (b : Bool). b) ends, sum_by-take-le (λ (b : Bool). cond b 1 0) ends k)

  -- ---- the branches before a place

  pub ranks : (p k : ℕ) → p ≤ 256 * length ns → (p / 256 < length ns → k ≡ p / 256 + 1) → (length ns ≤ p / 256 → k ≡ length ns) → AreRanked ns p k (branches_before ns p)
  ranks p k = ranks_at ns p k s.nodes

  -- ---- the calls

  pub branch_some : (v c p : ℕ) → v < length ns → c < 256 → 256 * v + c ≡ p → get_or labels p false ≡ true → Some p ≡ branch_place ns v c
  branch_some v c p l f e on = ap (λ (k : ℕ). Some k) (sym e) ∙ ap (λ (t : Bool). cond t (Some (256 * v + c)) None) (sym (sym (label_bit v c p l f e) ∙ on))

  pub branch_none : (v c p : ℕ) → v < length ns → c < 256 → 256 * v + c ≡ p → get_or labels p false ≡ false → None ≡ branch_place ns v c
  branch_none v c p l f e off = ap (λ (t : Bool). cond t (Some (256 * v + c)) None) (sym (sym (label_bit v c p l f e) ∙ off))

  ranked : (p : ℕ) → p ≤ 256 * length ns → (k : ℕ) × AreRanked ns p k (branches_before ns p)
  ranked p l = elim (cases_lt (p / 256) (length ns)) [
    | inl inside ↦ (p / 256 + 1, ranks p (p / 256 + 1) l (λ x. refl) (λ x. absurd (omega (arith, x, inside))))
    | inr past ↦ (length ns, ranks p (length ns) l (λ x. absurd (omega (arith, x, past))) (λ x. refl))
  ]

  pub children_counted : (p : ℕ) → p ≤ 256 * length ns → count_by (λ (b : Bool). b) (take p children) ≡ children_before ns (branches_before ns p)
  children_counted p l = ap (λ (bits : List Bool). rank_of bits p) s.children_are ∙ (ranked p l).1.below

  pub leads_is : (p : ℕ) → p < 256 * length ns → get_or children p false ≡ is_some (child_at ns p)
  leads_is p l = child_bit p l ∙ sym (some_if (has_child (node_at ns (p / 256)) (p % 256)) (first_below ns p))

  -- the set bits for children are those of the nodes
  pub children_to : (p n : ℕ) → n ≡ rank_of children p → n ≡ rank_of (dense_children ns) p
  children_to p n e = e ∙ ap (λ (bits : List Bool). rank_of bits p) s.children_are

  pub covered_at : (p k : ℕ) → p ≤ 256 * length ns → (p / 256 < length ns → k ≡ p / 256 + 1) → (length ns ≤ p / 256 → k ≡ length ns)
      → rank_of (dense_children ns) p ≤ rank_of (dense_labels ns) p + rank_of (dense_ends ns) k
  covered_at p k l inner last = covered ns p k (branches_before ns p) (ranks p k l inner last) (before_within ns p s.nodes)

  pub slot_is : (p k slot : ℕ) → p ≤ 256 * length ns → (p / 256 < length ns → k ≡ p / 256 + 1) → (length ns ≤ p / 256 → k ≡ length ns)
      → slot + rank_of (dense_children ns) p ≡ rank_of (dense_labels ns) p + rank_of (dense_ends ns) k → slot ≡ slot_at ns p
  slot_is p k slot l inner last sum = leaves_are ns p k (branches_before ns p) slot (ranks p k l inner last) (before_within ns p s.nodes) sum

  pub covered_node : (v : ℕ) → v ≤ length ns → rank_of (dense_children ns) (256 * v) ≤ rank_of (dense_labels ns) (256 * v) + rank_of (dense_ends ns) v
  covered_node v l = covered ns (256 * v) v (first_place ns v) (ranks_of_node ns v s.nodes l) (node_within ns v l)

  pub node_slot_is : (v slot : ℕ) → v ≤ length ns → slot + rank_of (dense_children ns) (256 * v) ≡ rank_of (dense_labels ns) (256 * v) + rank_of (dense_ends ns) v → slot ≡ node_slot ns v
  node_slot_is v slot l sum = leaves_are ns (256 * v) v (first_place ns v) slot (ranks_of_node ns v s.nodes l) (node_within ns v l) sum

  pub end_some : (v slot : ℕ) → v < length ns → get_or ends v false ≡ true → slot ≡ node_slot ns v → Some slot ≡ end_slot ns v
  end_some v slot l on is = ap (λ (k : ℕ). Some k) is ∙ ap (λ (t : Bool). cond t (Some (node_slot ns v)) None) (sym (sym (end_bit v l) ∙ on))

  pub end_none : (v : ℕ) → v < length ns → get_or ends v false ≡ false → None ≡ end_slot ns v
  end_none v l off = ap (λ (t : Bool). cond t (Some (node_slot ns v)) None) (sym (sym (end_bit v l) ∙ off))

  -- ---- all of it

  all_first : first_place ns (length ns) ≡ length (all ns)
  all_first = ap (λ (ms : List Node). length (all ms)) (take_all (length ns) ns (omega arith))

  whole : (k : ℕ) → k ≡ length ends → AreRanked ns (256 * k) k (length (all ns))
  whole k e =
      let is : length ns ≡ k = sym (e ∙ length_ends) in
      subst (λ (x : ℕ). AreRanked ns (256 * x) x (length (all ns))) is
      (subst (AreRanked ns (256 * length ns) (length ns)) all_first (ranks_of_node ns (length ns) s.nodes (omega arith)))

  pub covered_all : (k : ℕ) → k ≡ length ends → rank_of (dense_children ns) (256 * k) ≤ rank_of (dense_labels ns) (256 * k) + rank_of (dense_ends ns) k
  covered_all k e = covered ns (256 * k) k (length (all ns)) (whole k e) (omega arith)

  pub counts_are : (k count slots : ℕ) → k ≡ length ends → count ≡ count_by (λ (b : Bool). b) (take (256 * k) children)
      → slots + rank_of (dense_children ns) (256 * k) ≡ rank_of (dense_labels ns) (256 * k) + rank_of (dense_ends ns) k
      → record { nodes = k; children = count; slots = slots } ≡ counts_of ns
  counts_are k count slots e counted sum = λ j. record {
    nodes = (e ∙ length_ends) j;
    children = (counted ∙ ap (λ (bits : List Bool). rank_of bits (256 * k)) s.children_are ∙ (whole k e).below) j;
    slots = leaves_are ns (256 * k) k (length (all ns)) slots (whole k e) (omega arith) sum j;
  }
