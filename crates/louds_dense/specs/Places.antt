-- Places of a dense half: 256 for each node, one for each byte, whether or not it is a branch. Place p is that of byte
-- p mod 256 at node p / 256. Nothing stands before a dense half, so its nodes and slots are numbered as those of the trie.
use Rattle.std.specs.Prelude.{◌≡◌, ℕ, ◌+◌, ◌*◌, ◌/◌, ◌%◌, ◌<◌, nat_lt, true, false, cond, List, [], length, get_or, count_by, Option, Some, None}
use Rattle.std.specs.Option.{option_map}
use Rattle.filter_model.specs.Image.{has_child, has_letter}
use Rattle.filter_model.specs.Nodes.{Branch, Node, all, children_before, first_place, leaves_before}
use Rattle.filter_model.specs.Trie.{END}
use Rattle.trie_model.specs.Branching.{next_at, prev_at}
use Rattle.trie_model.specs.declared.parts.Before.{Before}

-- node v, and how many places there are
abbrev pub node_at : List Node → ℕ → Node
node_at ns v = get_or ns v []

abbrev pub places_in : List Node → ℕ
places_in ns = 256 * length ns

-- how many branches of a node come before byte c: END, and those by lesser bytes
abbrev pub ahead_of : ℕ → Node → ℕ
ahead_of c n = cond (has_letter n END) 1 0 + count_by (λ (b : Branch). nat_lt b.0 c) n

-- how many branches come before place p: the number of its branch among all branches of the nodes
abbrev pub branches_before : List Node → ℕ → ℕ
branches_before ns p = first_place ns (p / 256) + ahead_of (p % 256) (node_at ns (p / 256))

-- the place of branch i of node v, where it is by a byte
abbrev pub branch_place_of : List Node → ℕ → ℕ → ℕ
branch_place_of ns v i = 256 * v + (get_or (node_at ns v) i (0, false)).0

-- the byte of place p is a branch of its node
abbrev pub IsTaken : List Node → ℕ → Type 0
IsTaken ns p = (p < places_in ns) × (has_letter (node_at ns (p / 256)) (p % 256) ≡ true)

-- the place of node v's branch by byte c, of its first by a byte from c on, and of its last by a byte below c
abbrev pub branch_place : List Node → ℕ → ℕ → Option ℕ
branch_place ns v c = cond (has_letter (node_at ns v) c) (Some (256 * v + c)) None

abbrev pub next_place : List Node → ℕ → ℕ → Option ℕ
next_place ns v c = option_map (branch_place_of ns v) (next_at (node_at ns v) c)

abbrev pub prev_place : List Node → ℕ → ℕ → Option ℕ
prev_place ns v c = option_map (branch_place_of ns v) (prev_at (node_at ns v) c)

-- the first node whose branch stands at place p or later, and the number of these nodes and their children where there is none
abbrev pub first_below : List Node → ℕ → ℕ
first_below ns p = children_before ns (branches_before ns p) + 1

-- the node that the branch at place p leads to
abbrev pub child_at : List Node → ℕ → Option ℕ
child_at ns p = cond (has_child (node_at ns (p / 256)) (p % 256)) (Some (first_below ns p)) None

-- how many leaves stand before place p: the slot of the leaf there
abbrev pub slot_at : List Node → ℕ → ℕ
slot_at ns p = leaves_before ns (branches_before ns p)

-- how many leaves stand before node v; the slot of its END, which is its first branch
abbrev pub node_slot : List Node → ℕ → ℕ
node_slot ns v = leaves_before ns (first_place ns v)

abbrev pub end_slot : List Node → ℕ → Option ℕ
end_slot ns v = cond (has_letter (node_at ns v) END) (Some (node_slot ns v)) None

-- what stands before the rest of a trie whose first nodes these are
abbrev pub counts_of : List Node → Before
counts_of ns = record { nodes = length ns; children = children_before ns (length (all ns)); slots = leaves_before ns (length (all ns)) }
