use Rattle.std.proofs.Common.{◌*◌}
use Rattle.std.specs.Slice.Scan.{HoldsNowhere}
use Rattle.lane_scan.specs.Places.{is_one_at}
use Rattle.lane_scan.proofs.places.first_one_behind.Given as goal

abbrev pub invariant-loop-i : goal.invariant-loop-i
invariant-loop-i l = HoldsNowhere (is_one_at l.words) (64 * l.count) (64 * l.i)
