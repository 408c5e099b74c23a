-- The leaves of a trie: their paths and their slots.
use Rattle.std.specs.Prelude.{◌≡◌, ℕ, ◌<◌, ◌≤◌, false, List, length, map}
use Rattle.std.specs.List.{All, AllPairs, Contains}
use Rattle.filter_model.specs.Image.{in_slots}
use Rattle.filter_model.specs.Leaves.{Leaf}
use Rattle.filter_model.specs.Strings.{is_prefix}
use Rattle.filter_model.specs.Trie.{branches, height, is_node, level, parent, path, slots}
use Rattle.filter_model.specs.Valid.{IsCrowded}
use Rattle.trie_levels.specs.Tries.{HasTrie}

-- neither string begins the other
pub record AreParted (p q : List ℕ) : Type 0 where
  pub first : is_prefix p q ≡ false
  pub second : is_prefix q p ≡ false

-- of the paths of two leaves neither begins the other
abbrev pub PathsArePrefixFree : Type 0
PathsArePrefixFree = (ls : List Leaf) → HasTrie ls → AllPairs (λ a b. AreParted (path a) (path b)) ls

-- so no path leads to a node
abbrev pub PathsAreNoNodes : Type 0
PathsAreNoNodes = (ls : List Leaf) → HasTrie ls → All (λ l. is_node ls (path l) ≡ false) ls

-- each leaf has one slot: entry i of the leaves in slot order is the leaf of slot i
pub record HaveSlots (ls : List Leaf) : Type 0 where
  pub leaf_of_slot : map path (in_slots ls) ≡ slots ls
  pub slot_of_leaf : All (λ l. Contains (slots ls) (path l)) ls
  pub once : AllPairs (λ p q. p ≡ q → ⊥) (slots ls)
  pub as_many : length (slots ls) ≡ length ls

abbrev pub LeavesHaveSlots : Type 0
LeavesHaveSlots = (ls : List Leaf) → HasTrie ls → HaveSlots ls

-- each level below the height has a node
abbrev pub LevelsHaveNodes : Type 0
LevelsHaveNodes = (ls : List Leaf) (n : ℕ) → HasTrie ls → n < height ls → 0 < length (level ls n)

-- another stub goes on from a leaf's node exactly where that node has a second branch
abbrev pub CompanyIsABranch : Type 0
CompanyIsABranch =
    (ls : List Leaf) → HasTrie ls → All (λ l. (IsCrowded ls l → 2 ≤ length (branches ls (parent l))) × (2 ≤ length (branches ls (parent l)) → IsCrowded ls l)) ls
