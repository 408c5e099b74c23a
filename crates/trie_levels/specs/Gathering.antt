-- The nodes of a level, gathered in one pass over the longer paths.
use Rattle.std.specs.Prelude.{◌≡◌, ℕ, suc, nat_le, nat_lt, cond, List, [], ◌∷◌, ◌++◌, map, get_or, filter}
use Rattle.filter_model.specs.Leaves.{Leaf}
use Rattle.filter_model.specs.Nodes.{Branch, Node, node_of}
use Rattle.filter_model.specs.Trie.{level, path}
use Rattle.trie_levels.specs.declared.spans.Span.{Span}
use Rattle.trie_levels.specs.Spans.{spans_of}
use Rattle.trie_levels.specs.Tries.{HasTrie}

-- the paths with more than n letters
abbrev pub longer : ℕ → List Span → List Span
longer n spans = filter (λ s. nat_lt n s.len) spans

-- the branch of a node of level n by which a path goes
abbrev pub branch_by : List (List ℕ) → ℕ → Span → Branch
branch_by paths n s = (get_or (get_or paths s.leaf []) n 0, nat_lt (suc n) s.len)

-- the node so far, with that branch where no later path goes by it
abbrev pub with_span : List (List ℕ) → ℕ → Node → Span → Node
with_span paths n open_node s = cond (nat_le s.closes (suc n)) (open_node ++ branch_by paths n s ∷ []) open_node

-- the nodes that a pass gathers, with a node begun
abbrev pub gathered : List (List ℕ) → ℕ → Node → List Span → List Node
gathered paths n open_node [] = []
gathered paths n open_node (s ∷ ss) = cond (nat_le s.closes n) (with_span paths n open_node s ∷ gathered paths n [] ss) (gathered paths n (with_span paths n open_node s) ss)

-- are those of the level
abbrev pub GatheredAreNodes : Type 0
GatheredAreNodes = (ls : List Leaf) (n : ℕ) → HasTrie ls → gathered (map path ls) n [] (longer n (spans_of ls)) ≡ map (node_of ls) (level ls n)
