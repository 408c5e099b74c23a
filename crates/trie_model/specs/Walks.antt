-- Down the trie by a key: the leaf that it reaches, and the nodes on the way; and the least leaf below a branch.
use Rattle.std.specs.Prelude.{ℕ, ◌+◌, Bool, List, [], ◌∷◌, ◌++◌, map, length, get_or, take, filter, position, Option}
use Rattle.std.specs.List.{range_with_len}
use Rattle.filter_model.specs.Leaves.{Leaf}
use Rattle.filter_model.specs.Strings.{is_prefix, bytes_eq}
use Rattle.filter_model.specs.Trie.{END, is_node, path, slots}
use Rattle.trie_model.specs.Rests.{first_leaf}

-- the key reaches the leaf with this path: the key, and END behind it, begins with the path
abbrev pub reaches : List ℕ → List ℕ → Bool
reaches key q = is_prefix q (key ++ END ∷ [])

-- the slot that the key reaches, if any
unfoldable pub slot_of_key : List Leaf → List ℕ → Option ℕ
slot_of_key ls key = position (reaches key) (slots ls)

-- the nodes that the walk visits, one a step: the first letters of the key, none to all, as long as they lead to a node
unfoldable pub nodes_on_way : List Leaf → List ℕ → List (List ℕ)
nodes_on_way ls key = filter (is_node ls) (map (λ n. take n key) (range_with_len 0 (length key + 1)))

-- how many steps the walk takes
abbrev pub steps : List Leaf → List ℕ → ℕ
steps ls key = length (nodes_on_way ls key)

-- the path of the least leaf whose path begins with q
unfoldable pub least_path : List Leaf → List ℕ → List ℕ
least_path ls q = get_or (map path ls) (first_leaf ls q) []

-- its slot, if any
unfoldable pub leftmost_slot : List Leaf → List ℕ → Option ℕ
leftmost_slot ls q = position (bytes_eq (least_path ls q)) (slots ls)
