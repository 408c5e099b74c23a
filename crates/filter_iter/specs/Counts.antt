-- Leaves counted by levels. The leaves are listed in key order and the nodes level by level; of both this is told by how
-- many leaves stand below a node.
use Rattle.std.specs.Prelude.{◌≡◌, ℕ, ◌+◌, ◌≤◌, List, length, take, sum_by}
use Rattle.filter_model.specs.Leaves.{Leaf}
use Rattle.filter_model.specs.Nodes.{first_place, leaves_before, trie_of}
use Rattle.filter_model.specs.Trie.{nodes}
use Rattle.filter_model.specs.Valid.{IsLeafList}
use Rattle.trie_model.specs.Halves.{first_below, whole}
use Rattle.trie_model.specs.Rests.{leaves_below}

-- how many leaves stand below the first v nodes; each counts once for each of its nodes among them
abbrev pub below_first : List Leaf → ℕ → ℕ
below_first ls v = sum_by (leaves_below ls) (take v (nodes ls))

-- below the first v nodes stand the leaves among their branches, and what stands below the nodes to which the others lead.
-- These are the first ones behind the root, below which all leaves stand
abbrev pub LeavesAreCountedByLevels : Type 0
LeavesAreCountedByLevels =
    (hash_bits real_bits : ℕ) (ls : List Leaf) (v : ℕ) → IsLeafList hash_bits real_bits ls → v ≤ length (nodes ls)
    → below_first ls v + length ls ≡ leaves_before (trie_of ls) (first_place (trie_of ls) v) + below_first ls (first_below (whole (trie_of ls)) (first_place (trie_of ls) v))
