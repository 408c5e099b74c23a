-- The counts of a trie's levels, without the trie: from where neighbours part and how long the paths are.
use Rattle.std.specs.Prelude.{◌≡◌, ℕ, suc, ◌+◌, ◌==◌, cond, List, [], ◌∷◌, length, map, flat_map, count_by}
use Rattle.std.specs.List.{range_with_len}
use Rattle.filter_model.specs.Leaves.{Leaf}
use Rattle.filter_model.specs.Strings.{shared}
use Rattle.filter_model.specs.Trie.{branches, height, level, path}
use Rattle.trie_levels.specs.Tries.{HasTrie}

-- how many leaves share n bytes with the next one: it opens a further branch of a node of level n
abbrev pub partings : List Leaf → ℕ → ℕ
partings [] n = 0
partings (l ∷ []) n = 0
partings (l ∷ m ∷ ls) n = cond (shared l.stub m.stub == n) 1 0 + partings (m ∷ ls) n

-- how many leaves are branches of a node of level n: their paths have one letter more
abbrev pub endings : List Leaf → ℕ → ℕ
endings ls n = count_by (λ l. length (path l) == n + 1) ls

-- so many neighbours part, and so many leaves end, on each level
pub record AreCounts (ls : List Leaf) (parted ended : List ℕ) : Type 0 where
  pub trie : HasTrie ls
  pub parted_are : parted ≡ map (partings ls) (range_with_len 0 (height ls))
  pub ended_are : ended ≡ map (endings ls) (range_with_len 0 (height ls))

-- the branches of all nodes of level n
unfoldable pub level_branches : List Leaf → ℕ → List (List ℕ)
level_branches ls n = flat_map (branches ls) (level ls n)

-- each node has one branch, and one more for each two neighbours that part in it
abbrev pub BranchesAreNodesAndPartings : Type 0
BranchesAreNodesAndPartings =
    (ls : List Leaf) (n : ℕ) → HasTrie ls → length (level_branches ls n) ≡ length (level ls n) + partings ls n

-- each branch leads to a node of the next level or is a leaf
abbrev pub BranchesAreNodesAndEndings : Type 0
BranchesAreNodesAndEndings =
    (ls : List Leaf) (n : ℕ) → HasTrie ls → length (level_branches ls n) ≡ length (level ls (suc n)) + endings ls n
