use Rattle.std.proofs.Common.{◌≡◌, ◌++◌, drop}
use Rattle.plain_store.proofs.ranges.push_ranges.Given as goal

-- what is copied and what is left
abbrev pub invariant-loop-range : goal.invariant-loop-range
invariant-loop-range l = l.list.items ++ drop l.range-index l.ranges ≡ l.initial.list.items ++ l.ranges
