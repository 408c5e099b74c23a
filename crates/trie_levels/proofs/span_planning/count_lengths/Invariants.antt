use Rattle.std.proofs.Common.{◌≡◌, ◌<◌, ◌+◌, ◌==◌, ℕ, drop, get_or, length}
use Rattle.std.specs.Prelude.{count_by}
use Rattle.trie_levels.specs.declared.spans.Span.{Span}
use Rattle.trie_levels.proofs.span_planning.count_lengths.Given as goal

-- what was counted and what is to come are all
abbrev pub invariant-loop-i : goal.invariant-loop-i
invariant-loop-i l =
    (length l.counts.items ≡ l.levels)
    × ((n : ℕ) → n < l.levels → get_or l.counts.items n 0 + count_by (λ (s : Span). s.len == n + 1) (drop l.i l.spans) ≡ count_by (λ (s : Span). s.len == n + 1) l.spans)
