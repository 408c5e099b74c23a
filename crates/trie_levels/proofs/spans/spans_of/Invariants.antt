use Rattle.std.proofs.Common.{◌≡◌, ◌++◌, ℕ, drop}
use Rattle.filter_model.specs.Leaves.{leaves_of}
use Rattle.trie_levels.specs.Spans.{spans_from, spans_of as spans_of_leaves}
use Rattle.trie_levels.proofs.spans.spans_of.Given as goal

-- the spans of the keys passed, and those to come
abbrev pub invariant-loop-i : goal.invariant-loop-i
invariant-loop-i l =
    (hash_bits real_bits : ℕ)
    → l.spans.items ++ spans_from l.i (drop l.i (leaves_of hash_bits real_bits l.keys)) ≡ spans_of_leaves (leaves_of hash_bits real_bits l.keys)
