use Rattle.std.proofs.Common.{◌≡◌, ◌*◌}
use Rattle.lane_scan.specs.Ones.{ones_before}
use Rattle.lane_scan.proofs.words.ones_in_groups.Given as goal

abbrev pub invariant-loop-i : goal.invariant-loop-i
invariant-loop-i l = l.total ≡ ones_before l.words (32 * l.i)
