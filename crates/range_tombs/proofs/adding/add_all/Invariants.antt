use Rattle.std.proofs.Common.{◌≡◌, ◌≤◌, ◌+◌, fold, length}
use Rattle.std.specs.Prelude.{vec_capacity, vec_len}
use Rattle.range_model.specs.Ranges.{with_range}
use Rattle.range_tombs.proofs.adding.add_all.Given as goal

-- those that came so far are added
abbrev pub invariant-loop-range : goal.invariant-loop-range
invariant-loop-range l = record {
  all : l.ranges.items ≡ fold with_range l.fn.ranges.items l.yielded;
  few : vec_len l.ranges ≤ vec_len l.fn.ranges + length l.yielded;
  within : vec_len l.ranges ≤ vec_capacity l.ranges;
  capacity : vec_capacity l.fn.ranges ≤ vec_capacity l.ranges;
}
