-- What a trie is built from and how far it is.
use Rattle.std.specs.Prelude.{◌≤◌, ◌<◌, ◌^◌, ℕ, length, List, [], ◌∷◌, ◌++◌, map, drop}
use Rattle.std.specs.List.{All}
use Rattle.filter_model.specs.Leaves.{base_leaves}
use Rattle.filter_model.specs.Nodes.{Node, node_of}
use Rattle.filter_model.specs.Trie.{nodes_to}
use Rattle.trie_levels.specs.declared.spans.Span.{Span}
use Rattle.trie_levels.specs.Gathering.{longer}
use Rattle.trie_levels.specs.Spans.{spans_of}
use Rattle.trie_model.specs.Halves.{Half}
use Rattle.trie_model.specs.declared.parts.Before.{Before}

-- the spans of the paths with more than n letters
abbrev pub spans_longer : List (List ℕ) → ℕ → List Span
spans_longer keys n = longer n (spans_of (base_leaves keys))

-- the nodes of the first n levels, behind those of another half
abbrev pub nodes_behind : List (List ℕ) → ℕ → Before → List Node
nodes_behind keys n before = drop before.nodes (map (node_of (base_leaves keys)) (nodes_to (base_leaves keys) n))

-- a half of these nodes
abbrev pub half_to : List (List ℕ) → ℕ → Before → Half
half_to keys n before = record { before = before; nodes = nodes_behind keys n before }

-- a half with a node more
abbrev pub half_with : Node → Half → Half
half_with n h = record { before = h.before; nodes = h.nodes ++ n ∷ [] }

-- counts of so few levels and so small that their sum fits a word
pub record AreFewCounts (counts : List ℕ) : Type 0 where
  pub few : length counts ≤ 1025
  pub small : All (λ n. n < 2 ^ 32) counts
