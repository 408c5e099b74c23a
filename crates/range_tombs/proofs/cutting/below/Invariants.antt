use Rattle.std.proofs.Common.{◌≡◌, ◌++◌, drop}
use Rattle.range_model.specs.Ranges.{ranges_below}
use Rattle.range_tombs.proofs.cutting.below.Given as goal

abbrev pub invariant-loop-range : goal.invariant-loop-range
invariant-loop-range l = l.list.items ++ ranges_below (drop l.range-index l.ranges) l.at ≡ ranges_below l.ranges l.at
