use Rattle.std.proofs.Common.{◌≡◌, ◌++◌, drop}
use Rattle.range_tombs.proofs.cutting.copied.Given as goal

abbrev pub invariant-loop-range : goal.invariant-loop-range
invariant-loop-range l = l.list.items ++ drop l.range-index l.ranges ≡ l.ranges
