use Rattle.std.proofs.Common.{◌≡◌, max, drop}
use Rattle.trie_levels.specs.Spans.{most_letters}
use Rattle.trie_levels.proofs.span_planning.longest.Given as goal

-- the longest of the paths passed and of the rest is the longest of all
abbrev pub invariant-loop-i : goal.invariant-loop-i
invariant-loop-i l = max l.longest (most_letters (drop l.i l.spans)) ≡ most_letters l.spans
