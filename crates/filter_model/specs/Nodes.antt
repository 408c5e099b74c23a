-- The trie as one list of nodes in level order, each the list of its branches.
use Rattle.std.specs.Prelude.{◌≡◌, ℕ, ◌+◌, ◌-◌, ◌<◌, ◌≤◌, Bool, false, not, List, map, length, get_or, take, flat_map, count_by}
use Rattle.filter_model.specs.Leaves.{Leaf}
use Rattle.filter_model.specs.Trie.{is_node, branches, nodes}

-- a branch: its letter (a byte, or END), and whether it leads to a node
abbrev pub Branch : Type 0
Branch = ℕ × Bool

abbrev pub Node : Type 0
Node = List Branch

-- the last letter
abbrev pub last_letter : List ℕ → ℕ
last_letter q = get_or q (length q - 1) 0

-- the branches of the prefix p
unfoldable pub node_of : List Leaf → List ℕ → Node
node_of ls p = map (λ (q : List ℕ). (last_letter q, is_node ls q)) (branches ls p)

-- the trie of a leaf list
unfoldable pub trie_of : List Leaf → List Node
trie_of ls = map (node_of ls) (nodes ls)

-- all branches in the order of the nodes: a branch's place is its number here
abbrev pub all : List Node → List Branch
all ns = flat_map (λ (n : Node). n) ns

-- the place at which node v begins
abbrev pub first_place : List Node → ℕ → ℕ
first_place ns v = length (all (take v ns))

abbrev pub at : List Node → ℕ → Branch
at ns p = get_or (all ns) p (0, false)

-- how many branches at places below p lead to a node, and how many are leaves
abbrev pub children_before : List Node → ℕ → ℕ
children_before ns p = count_by (λ (b : Branch). b.1) (take p (all ns))

abbrev pub leaves_before : List Node → ℕ → ℕ
leaves_before ns p = count_by (λ (b : Branch). not b.1) (take p (all ns))

-- at place p stands a branch of node v with letter c
abbrev pub IsBranch : List Node → ℕ → ℕ → ℕ → Type 0
IsBranch ns v c p = (first_place ns v ≤ p) × (p < first_place ns (v + 1)) × ((at ns p).0 ≡ c)
