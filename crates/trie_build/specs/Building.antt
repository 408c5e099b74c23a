-- What a trie is built from, and how far it is.
use Rattle.std.specs.Prelude.{◌≡◌, ◌≤◌, ◌<◌, ◌^◌, ℕ, true, length, List, [], ◌∷◌, ◌++◌, map, take, drop, get_or, sum_by}
use Rattle.std.specs.List.{All}
use Rattle.filter_model.specs.Leaves.{Leaf}
use Rattle.filter_model.specs.Nodes.{Node, node_of, trie_of}
use Rattle.filter_model.specs.Trie.{height, level_labels, level_nodes, nodes_to}
use Rattle.trie_levels.specs.declared.spans.Span.{Span}
use Rattle.trie_levels.specs.Counts.{Counts}
use Rattle.trie_levels.specs.Gathering.{longer}
use Rattle.trie_levels.specs.Spans.{spans_of}
use Rattle.trie_levels.specs.Tries.{HasTrie}
use Rattle.trie_model.specs.Halves.{Half}
use Rattle.trie_model.specs.declared.parts.Before.{Before}

-- the leaf is cut from the key: its stub is the first bytes of the key, and all of them where the leaf ends
pub record IsCutFrom (key : List ℕ) (l : Leaf) : Type 0 where
  pub first : l.stub ≡ take (length l.stub) key
  pub whole : l.ends ≡ true → l.stub ≡ key

-- a leaf of each key, which have a trie together
pub record AreCutFrom (keys : List (List ℕ)) (ls : List Leaf) : Type 0 where
  pub trie : HasTrie ls
  pub as_many : length ls ≡ length keys
  pub each : (i : ℕ) (d : Leaf) → i < length ls → IsCutFrom (get_or keys i []) (get_or ls i d)

-- such leaves, their spans, the plan of their levels and a cutoff
pub record IsPlanned (keys : List (List ℕ)) (ls : List Leaf) (spans : List Span) (counts : Counts) (cutoff : ℕ) : Type 0 where
  pub cut : AreCutFrom keys ls
  pub spans_are : spans ≡ spans_of ls
  pub nodes_are : counts.nodes ≡ level_nodes ls
  pub labels_are : counts.labels ≡ level_labels ls
  pub cutoff_in : cutoff ≤ height ls

-- the nodes of the trie's first levels, and those of the others
abbrev pub first_levels : ℕ → List Leaf → List Node
first_levels cutoff ls = take (length (nodes_to ls cutoff)) (trie_of ls)

abbrev pub other_levels : ℕ → List Leaf → List Node
other_levels cutoff ls = drop (length (nodes_to ls cutoff)) (trie_of ls)

-- the spans of the paths with more than n letters
abbrev pub spans_longer : List Leaf → ℕ → List Span
spans_longer ls n = longer n (spans_of ls)

-- the nodes of the first n levels, behind those of another half
abbrev pub nodes_behind : List Leaf → ℕ → Before → List Node
nodes_behind ls n before = drop before.nodes (map (node_of ls) (nodes_to ls n))

-- a half of these nodes
abbrev pub half_to : List Leaf → ℕ → Before → Half
half_to ls n before = record { before = before; nodes = nodes_behind ls n before }

-- a half with a node more
abbrev pub half_with : Node → Half → Half
half_with n h = record { before = h.before; nodes = h.nodes ++ n ∷ [] }

-- counts of so few levels and so small that their sum fits a word
pub record AreFewCounts (counts : List ℕ) : Type 0 where
  pub few : length counts ≤ 1025
  pub small : All (λ n. n < 2 ^ 32) counts

-- a half has the nodes of the levels before one and room for those before another, and these spans are of the paths that are longer
pub record MayGrow (keys : List (List ℕ)) (ls : List Leaf) (from to : ℕ) (h : Half) (size : Node → ℕ) (limit : ℕ) (spans : List Span) : Type 0 where
  pub cut : AreCutFrom keys ls
  pub order : from ≤ to
  pub within : to ≤ height ls
  pub before : h.before.nodes ≤ length (nodes_to ls from)
  pub nodes : h.nodes ≡ nodes_behind ls from h.before
  pub room : sum_by size (nodes_behind ls to h.before) ≤ limit
  pub spans_are : spans ≡ spans_longer ls from
