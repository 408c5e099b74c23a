use Rattle.std.proofs.Common.{◌≡◌, ◌<◌, ◌≤◌, ◌-◌, length}
use Rattle.std.specs.Prelude.{vec_capacity, vec_len}
use Rattle.range_model.specs.Ranges.{with_range}
use Rattle.range_tombs.proofs.Steps.{added_from}
use Rattle.range_tombs.proofs.adding.add_to.Given as goal

abbrev pub invariant-loop-at : goal.invariant-loop-at
invariant-loop-at l = record {
  whole : added_from l.at l.ranges.items l.range ≡ with_range l.initial.ranges.items l.initial.range;
  within : l.at ≤ length l.ranges.items;
  shorter : vec_len l.ranges ≤ vec_len l.initial.ranges;
  room : vec_len l.ranges < vec_capacity l.ranges;
  capacity : vec_capacity l.initial.ranges ≤ vec_capacity l.ranges;
}

abbrev pub decreases-loop-at : goal.decreases-loop-at
decreases-loop-at l = vec_len l.ranges - l.at
