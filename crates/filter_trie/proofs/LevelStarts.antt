-- What stands before nodes and places of a trie is little, and levels follow each other.
use Rattle.std.proofs.Common.{◌≡◌, ℕ, suc, ◌+◌, ◌-◌, ◌<◌, ◌≤◌, Bool, true, false, cond, List, [], ◌∷◌, length, take, refl, ap, ◌∙◌, arith}
use Rattle.std.specs.Prelude.{count_by, not}
use Rattle.std.proofs.lemmas.List.{length-take-le, take-map}
use Rattle.std.proofs.lemmas.List.Sums.{length-filter, sum_by-cons, sum_by-take-le}
use Rattle.filter_model.specs.Leaves.{Leaf}
use Rattle.filter_model.specs.Nodes.{Branch, Node, all, children_before, leaves_before, trie_of}
use Rattle.filter_model.specs.Trie.{height, is_node, nodes, places, slots}
use Rattle.filter_trie.specs.LevelStarts.{slots_down}
use Rattle.trie_laws.proofs.NodeLists.{nodes_is}
use Rattle.trie_laws.proofs.Places.{all-trie_of, branch_of, children-trie_of, count_by-map}
use Rattle.trie_laws.proofs.Slots.{leaves_have_slots}
use Rattle.trie_levels.specs.Tries.{HasTrie}
use Rattle.trie_model.specs.Halves.{Half, begin_of, first_below, slot_at, whole}

both_counts : {X : Type 0} (p : X → Bool) (xs : List X) → count_by p xs + count_by (λ x. not (p x)) xs ≡ length xs
both_counts p [] = refl
both_counts p (x ∷ xs) =
    let a = sum_by-cons (λ y. cond (p y) 1 0) x xs in
    let b = sum_by-cons (λ y. cond (not (p y)) 1 0) x xs in
    let ih = both_counts p xs in
    rw (a, b) (both_step (p x) (count_by p xs) (count_by (λ y. not (p y)) xs) (length xs) ih)
  where
    both_step : (b : Bool) (m n k : ℕ) → m + n ≡ k → (cond b 1 0 + m) + (cond (not b) 1 0 + n) ≡ suc k
    both_step true m n k e = omega arith
    both_step false m n k e = omega arith

-- a branch leads to a node or is a leaf
pub counts_add : (ns : List Node) (p : ℕ) → p ≤ length (all ns) → children_before ns p + leaves_before ns p ≡ p
counts_add ns p l = both_counts (λ (b : Branch). b.1) (take p (all ns)) ∙ length-take-le p (all ns) l

leaves-trie_of : (ls : List Leaf) (p : ℕ) → leaves_before (trie_of ls) p ≡ count_by (λ q. not (is_node ls q)) (take p (places ls))
leaves-trie_of ls p =
    ap (λ (bs : List Branch). count_by (λ (b : Branch). not b.1) (take p bs)) (all-trie_of ls)
    ∙ ap (count_by (λ (b : Branch). not b.1)) (take-map (branch_of ls) p (places ls))
    ∙ count_by-map (λ (b : Branch). not b.1) (branch_of ls) (take p (places ls))

-- no more leaves stand before a place than there are
pub slots_within : (ls : List Leaf) (p : ℕ) → HasTrie ls → slot_at (whole (trie_of ls)) p ≤ length ls
unfolding slots
slots_within ls p t =
    let test = λ (q : List ℕ). not (is_node ls q) in
    omega (arith, leaves-trie_of ls p, sum_by-take-le (λ (q : List ℕ). cond (test q) 1 0) (places ls) p, length-filter test (places ls), (leaves_have_slots ls t).as_many)

-- and no more nodes
pub nodes_within : (ls : List Leaf) (p : ℕ) → 0 < height ls → first_below (whole (trie_of ls)) p ≤ length (nodes ls)
nodes_within ls p high =
    omega (
      arith,
      children-trie_of ls p,
      sum_by-take-le (λ (q : List ℕ). cond (is_node ls q) 1 0) (places ls) p,
      length-filter (is_node ls) (places ls),
      ap (λ (ps : List (List ℕ)). length ps) (nodes_is ls high),
    )

-- from one level to the next
pub one_down : (h : Half) (n k v : ℕ) → k < n → slots_down h (n - k) v ≡ slot_at h (begin_of h v) + slots_down h (n - (k + 1)) (first_below h (begin_of h v))
one_down h n k v l = let one : n - k ≡ suc (n - (k + 1)) = omega (arith, l) in ap (λ (m : ℕ). slots_down h m v) one

pub none_down : (h : Half) (n k v : ℕ) → n ≤ k → slots_down h (n - k) v ≡ 0
none_down h n k v l = let none : n - k ≡ 0 = omega (arith, l) in ap (λ (m : ℕ). slots_down h m v) none
