use Rattle.std.proofs.Common.{◌*◌}
use Rattle.std.specs.Slice.Scan.{HoldsNowhere}
use Rattle.lane_scan.specs.Places.{is_one_at}
use Rattle.lane_scan.proofs.places.last_one_of.Given as goal

abbrev pub invariant-loop-i : goal.invariant-loop-i
invariant-loop-i l = HoldsNowhere (is_one_at l.words) (64 * l.i) (64 * l.count)
