-- The order of the slots, by the spans of the leaves.
use Rattle.std.specs.Prelude.{◌≡◌, ℕ, zero, suc, ◌==◌, ◌<◌, ◌≤◌, List, [], ◌++◌, length, map, filter, slice_index_or}
use Rattle.std.specs.List.{All}
use Rattle.map_file_model.specs.Maps.{Bytes, max_map_pairs}
use Rattle.trie_levels.specs.declared.spans.Span.{Span}

-- the paths that end on level n, and on the levels before it
abbrev pub ended_on : ℕ → List Span → List Span
ended_on n spans = filter (λ s. s.len == suc n) spans

abbrev pub ended_by : ℕ → List Span → List Span
ended_by zero spans = []
ended_by (suc n) spans = ended_by n spans ++ ended_on n spans

-- the values with these numbers
abbrev pub values_at : List Bytes → List ℕ → List Bytes
values_at values order = map (λ n. slice_index_or values n []) order

-- numbers of values, a million at most, none of which is longer than 65,536 bytes
pub record MayBeWritten (values : List Bytes) (order : List ℕ) : Type 0 where
  pub within : All (λ n. n < length values) order
  pub few : length order ≤ max_map_pairs
  pub short : All (λ value. length value ≤ 65536) values

-- by such numbers the values stand so
pub record AreOrdered (values : List Bytes) (order : List ℕ) (slotted : List Bytes) : Type 0 where
  pub may : MayBeWritten values order
  pub are : values_at values order ≡ slotted
