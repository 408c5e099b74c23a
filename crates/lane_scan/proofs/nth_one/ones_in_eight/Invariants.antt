use Rattle.std.proofs.Common.{◌≡◌, ◌+◌}
use Rattle.lane_scan.specs.Ones.{ones_before}
use Rattle.lane_scan.proofs.nth_one.ones_in_eight.Given as goal

abbrev pub invariant-loop-i : goal.invariant-loop-i
invariant-loop-i l = ones_before l.words l.at + l.total ≡ ones_before l.words l.i
