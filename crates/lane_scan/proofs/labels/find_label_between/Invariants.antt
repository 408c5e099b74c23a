use Rattle.std.proofs.Common.{◌+◌, ◌*◌}
use Rattle.std.specs.Slice.Scan.{HoldsNowhere}
use Rattle.lane_scan.specs.Places.{is_label_at}
use Rattle.lane_scan.proofs.labels.find_label_between.Given as goal

abbrev pub invariant-loop-i : goal.invariant-loop-i
invariant-loop-i l = HoldsNowhere (is_label_at l.section l.label) l.start (l.start + 16 * l.i)
