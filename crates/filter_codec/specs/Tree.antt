-- The two lists of nodes that packed sections spell, and their levels one after the other.
use Rattle.std.specs.Prelude.{◌≡◌, ℕ, ◌+◌, ◌-◌, ◌<◌, ◌≤◌, ◌^◌, ◌==◌, ◌||◌, not, Bool, List, length, take, drop, count_by, Option, None}
use Rattle.std.specs.List.{All}
use Rattle.byte_fields.specs.Faults.{Fault, refuse}
use Rattle.filter_image_model.specs.Levels.{are_levels, children_of, leaf_count_of, nodes_above}
use Rattle.filter_image_model.specs.Reading.{begins_clear}
use Rattle.filter_model.specs.Image.{sparse_children, sparse_labels, sparse_louds}
use Rattle.filter_model.specs.Nodes.{Node}
use Rattle.trie_laws.specs.Louds.{IsNode}

pub record Tree : Type 0 where
  pub dense : List Node
  pub sparse : List Node

-- the sparse sections are those of nodes that are not empty, END the first where it is one of several
pub record AreSparse (labels : List ℕ) (children louds : List Bool) (ns : List Node) : Type 0 where
  pub labels_are : labels ≡ sparse_labels ns
  pub children_are : children ≡ sparse_children ns
  pub louds_are : louds ≡ sparse_louds ns
  pub nodes : All IsNode ns
  pub short : length labels < 2 ^ 62

-- the rule on opening bits
abbrev pub louds_rule : List Bool → ℕ → Option Fault
louds_rule louds sparse = refuse (not (count_by (λ b. b) louds == sparse) || begins_clear louds) 8 8 None

-- behind the first n levels the next one has the nodes from `start` on and before `end`
pub record IsNextLevel (ns : List Node) (n start end : ℕ) : Type 0 where
  pub rest : (k : ℕ) → are_levels (n + k) 1 ns ≡ are_levels k (end - start) (drop start ns)
  pub above : (k : ℕ) → nodes_above (n + k) 1 ns ≡ start + nodes_above k (end - start) (drop start ns)
  pub order : start ≤ end
  pub next : end ≡ children_of (take start ns) + 1
  pub within : start ≤ length ns

-- the rule on levels and leaves
abbrev pub counts_rule : ℕ → ℕ → ℕ → ℕ → List Node → Option Fault
counts_rule height cutoff dense leaves ns =
    refuse (not (are_levels height 1 ns) || not (nodes_above cutoff 1 ns == dense) || not (leaf_count_of ns == leaves)) 8 8 None
