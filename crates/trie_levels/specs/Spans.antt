-- How the paths of leaves stand among each other: where each parts from the next one, and how long it is.
use Rattle.std.specs.Prelude.{◌≡◌, ℕ, zero, suc, ◌++◌, ◌+◌, ◌<◌, ◌≤◌, ◌==◌, max, nat_le, nat_lt, ◌&&◌, cond, List, [], ◌∷◌, map, length, take, filter, slice_index_or}
use Rattle.filter_model.specs.Image.{in_slots}
use Rattle.filter_model.specs.Leaves.{Leaf}
use Rattle.filter_model.specs.Strings.{shared}
use Rattle.filter_model.specs.Trie.{height, level, path}
use Rattle.trie_levels.specs.declared.spans.Span.{Span}
use Rattle.trie_levels.specs.Neighbours.{level_branches}
use Rattle.trie_levels.specs.Tries.{HasTrie}

-- the first level on which no later leaf stands below the same node: one more than the letters that it shares with the
-- next leaf, and the root's for the last one
abbrev pub closes : Leaf → List Leaf → ℕ
closes l [] = 0
closes l (m ∷ ls) = shared l.stub m.stub + 1

-- the same of the leaf at place i, by its key
abbrev pub closes_at : List (List ℕ) → ℕ → ℕ
closes_at keys i = cond (nat_lt (i + 1) (length keys)) (shared (slice_index_or keys i []) (slice_index_or keys (i + 1) []) + 1) 0

-- the spans of leaves that are numbered from k on
abbrev pub spans_from : ℕ → List Leaf → List Span
spans_from k [] = []
spans_from k (l ∷ ls) = record { leaf = k; closes = closes l ls; len = length (path l) } ∷ spans_from (suc k) ls

abbrev pub spans_of : List Leaf → List Span
spans_of ls = spans_from 0 ls

-- these are the spans of leaves that have a trie
pub record AreSpans (ls : List Leaf) (spans : List Span) : Type 0 where
  pub trie : HasTrie ls
  pub are : spans ≡ spans_of ls

-- the letters of the longest path
abbrev pub most_letters : List Span → ℕ
most_letters [] = 0
most_letters (s ∷ ss) = max s.len (most_letters ss)

-- the path has a letter, and neither it nor what it shares with the next one is longer than that
abbrev pub ends_within : ℕ → Span → Type 0
ends_within levels s = (0 < s.len) × (s.len ≤ levels) × (s.closes ≤ levels)

-- the leaves that are the last below their first n letters, where their paths have more than k letters
abbrev pub last_below : ℕ → ℕ → List Leaf → List Leaf
last_below n k [] = []
last_below n k (l ∷ ls) = cond (nat_le (closes l ls) n && nat_lt k (length (path l))) (l ∷ last_below n k ls) (last_below n k ls)

-- the nodes of a level are the first letters of the longer paths, each once
abbrev pub NodesAreLastBelow : Type 0
NodesAreLastBelow = (ls : List Leaf) (n : ℕ) → HasTrie ls → level ls n ≡ map (λ l. take n (path l)) (last_below n n ls)

-- and its branches those of one letter more
abbrev pub BranchesAreLastBelow : Type 0
BranchesAreLastBelow = (ls : List Leaf) (n : ℕ) → HasTrie ls → level_branches ls n ≡ map (λ l. take (suc n) (path l)) (last_below (suc n) n ls)

-- the leaves whose paths have n letters at most, the shorter ones first
abbrev pub by_length : ℕ → List Leaf → List Leaf
by_length zero ls = []
by_length (suc n) ls = by_length n ls ++ filter (λ l. length (path l) == suc n) ls

-- slots go by the length of the paths, and then as the leaves do
abbrev pub SlotsGoByLength : Type 0
SlotsGoByLength = (ls : List Leaf) → HasTrie ls → in_slots ls ≡ by_length (height ls) ls
