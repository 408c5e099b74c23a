use Rattle.std.proofs.Common.{◌≡◌, ◌++◌, drop}
use Rattle.range_model.specs.Ranges.{ranges_from}
use Rattle.range_tombs.proofs.cutting.from.Given as goal

abbrev pub invariant-loop-range : goal.invariant-loop-range
invariant-loop-range l = l.list.items ++ ranges_from (drop l.range-index l.ranges) l.at ≡ ranges_from l.ranges l.at
