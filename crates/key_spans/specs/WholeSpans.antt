-- The span of a whole key, by the key and the next one.
use Rattle.std.specs.Prelude.{ℕ, ◌+◌, ◌==◌, nat_lt, cond, List, [], length, slice_index_or}
use Rattle.filter_model.specs.Strings.{shared}
use Rattle.trie_levels.specs.declared.spans.Span.{Span}

-- of the key of number i before another one, which goes on from it where they share all of it
abbrev pub span_before : ℕ → List ℕ → List ℕ → Span
span_before i key next = record { leaf = i; closes = shared key next + 1; len = length key + cond (shared key next == length key) 1 0 }

-- of the last key
abbrev pub last_span : ℕ → List ℕ → Span
last_span i key = record { leaf = i; closes = 0; len = length key }

-- of the key at place i
abbrev pub span_at : List (List ℕ) → ℕ → Span
span_at keys i =
    cond (nat_lt (i + 1) (length keys)) (span_before i (slice_index_or keys i []) (slice_index_or keys (i + 1) [])) (last_span i (slice_index_or keys i []))
