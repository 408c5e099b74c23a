-- Two lists of nodes end to end, as the dense and the sparse half of a trie.
use Rattle.std.specs.Prelude.{◌≡◌, ℕ, ◌+◌, ◌-◌, ◌<◌, ◌≤◌, MatchOption, List, ◌++◌, length}
use Rattle.filter_model.specs.Nodes.{IsBranch, Node, all, at, children_before, first_place, leaves_before}
use Rattle.trie_model.specs.Halves.{whole, Half, HasNode, branch_place, child_at, first_below, slot_at}

-- what stands in the first list, and before places of it
pub record KeepsFirst (ds ss : List Node) : Type 0 where
  pub begins : (v : ℕ) → v ≤ length ds → first_place (ds ++ ss) v ≡ first_place ds v
  pub branches : (p : ℕ) → p < length (all ds) → at (ds ++ ss) p ≡ at ds p
  pub children : (p : ℕ) → p ≤ length (all ds) → children_before (ds ++ ss) p ≡ children_before ds p
  pub leaves : (p : ℕ) → p ≤ length (all ds) → leaves_before (ds ++ ss) p ≡ leaves_before ds p

-- what stands in the second, behind all of the first
pub record KeepsSecond (ds ss : List Node) : Type 0 where
  pub begins : (v : ℕ) → first_place (ds ++ ss) (length ds + v) ≡ length (all ds) + first_place ss v
  pub branches : (p : ℕ) → at (ds ++ ss) (length (all ds) + p) ≡ at ss p
  pub children : (p : ℕ) → children_before (ds ++ ss) (length (all ds) + p) ≡ children_before ds (length (all ds)) + children_before ss p
  pub leaves : (p : ℕ) → leaves_before (ds ++ ss) (length (all ds) + p) ≡ leaves_before ds (length (all ds)) + leaves_before ss p

abbrev pub HalvesJoin : Type 0
HalvesJoin = (ds ss : List Node) → KeepsFirst ds ss × KeepsSecond ds ss

-- the second half, with counts of the first
abbrev pub second_half : List Node → List Node → Half
second_half ds ss =
    record { before = record { nodes = length ds; children = children_before ds (length (all ds)); slots = leaves_before ds (length (all ds)) }; nodes = ss }

-- children, slots and nodes below have the same numbers in it as in the whole
pub record NumbersAsWhole (ds ss : List Node) (p : ℕ) : Type 0 where
  pub child : child_at (second_half ds ss) p ≡ child_at (whole (ds ++ ss)) (length (all ds) + p)
  pub slot : slot_at (second_half ds ss) p ≡ slot_at (whole (ds ++ ss)) (length (all ds) + p)
  pub below : first_below (second_half ds ss) p ≡ first_below (whole (ds ++ ss)) (length (all ds) + p)

abbrev pub SecondHalfCountsOn : Type 0
SecondHalfCountsOn = (ds ss : List Node) (p : ℕ) → NumbersAsWhole ds ss p

-- the branch by a letter is found exactly where the node has one
abbrev pub BranchIsFound : Type 0
BranchIsFound =
    (h : Half) (v c : ℕ) → HasNode h v
    → MatchOption (branch_place h v c) ((p : ℕ) → IsBranch h.nodes (v - h.before.nodes) c p → ⊥) (IsBranch h.nodes (v - h.before.nodes) c)
