-- What a succinct trie counts by: child, slot, place and select.
use Rattle.std.specs.Prelude.{◌≡◌, ℕ, suc, ◌+◌, ◌<◌, ◌≤◌, Bool, true, false, List, [], ◌∷◌, ◌++◌, length, get_or, filter, count_by, All}
use Rattle.filter_model.specs.Image.{sparse_louds}
use Rattle.filter_model.specs.Leaves.{Leaf}
use Rattle.filter_model.specs.Nodes.{Node, IsBranch, at, children_before, first_place, leaves_before, trie_of}
use Rattle.filter_model.specs.Trie.{height, is_node, is_reached, nodes, places, slots}
use Rattle.bit_select.specs.Place.{IsPlaceOfOne}
use Rattle.trie_laws.specs.Louds.{IsNode}

-- the nodes are the root, and then the branches that lead to a node, in the order of all branches
abbrev pub NodesAreChildren : Type 0
NodesAreChildren = (ls : List Leaf) → 0 < height ls → nodes ls ≡ [] ∷ filter (is_node ls) (places ls)

-- the child of a branch is the node whose number is 1 and the branches with a child before it
abbrev pub ChildIsCounted : Type 0
ChildIsCounted =
    (ls : List Leaf) (p : ℕ) → 0 < height ls → p < length (places ls) → is_node ls (get_or (places ls) p []) ≡ true
    → get_or (nodes ls) (suc (children_before (trie_of ls) p)) [] ≡ get_or (places ls) p []

-- the slot of a branch that is a leaf is the number of leaves before it
abbrev pub SlotIsCounted : Type 0
SlotIsCounted =
    (ls : List Leaf) (p : ℕ) → p < length (places ls) → is_node ls (get_or (places ls) p []) ≡ false
    → get_or (slots ls) (leaves_before (trie_of ls) p) [] ≡ get_or (places ls) p []

-- at a place of node v stands the node's string and the branch's letter
abbrev pub PlacesAreOfNodes : Type 0
PlacesAreOfNodes =
    (ls : List Leaf) (v p : ℕ) → v < length (nodes ls) → first_place (trie_of ls) v ≤ p → p < first_place (trie_of ls) (v + 1)
    → get_or (places ls) p [] ≡ get_or (nodes ls) v [] ++ (at (trie_of ls) p).0 ∷ []

-- each letter by which a node goes on has a place of that node
abbrev pub LettersHavePlaces : Type 0
LettersHavePlaces =
    (ls : List Leaf) (v c : ℕ) → v < length (nodes ls) → c ≤ 256 → is_reached ls (get_or (nodes ls) v [] ++ c ∷ []) ≡ true
    → (p : ℕ) × IsBranch (trie_of ls) v c p

-- the set bit number v stands where node v begins, and nowhere else; there are as many as nodes
abbrev pub SelectFindsNode : Type 0
SelectFindsNode = (ns : List Node) (v : ℕ) → All IsNode ns → v < length ns → IsPlaceOfOne (sparse_louds ns) v (first_place ns v)

abbrev pub SelectIsUnique : Type 0
SelectIsUnique = (bits : List Bool) (n i j : ℕ) → IsPlaceOfOne bits n i → IsPlaceOfOne bits n j → i ≡ j

abbrev pub SetBitsAreNodes : Type 0
SetBitsAreNodes = (ns : List Node) → All IsNode ns → count_by (λ (b : Bool). b) (sparse_louds ns) ≡ length ns
