use Rattle.std.proofs.Common.{◌≡◌, ◌++◌, drop}
use Rattle.key_spans.proofs.spans.whole_spans.Given as goal
use Rattle.trie_levels.specs.Spans.{spans_from, spans_of}
use Rattle.whole_keys.specs.Whole.{whole_leaves}

-- the spans of the keys passed, and those to come
abbrev pub invariant-loop-i : goal.invariant-loop-i
invariant-loop-i l = l.spans.items ++ spans_from l.i (drop l.i (whole_leaves l.keys)) ≡ spans_of (whole_leaves l.keys)
