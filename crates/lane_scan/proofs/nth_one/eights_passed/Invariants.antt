use Rattle.std.proofs.Common.{◌≡◌, ◌+◌, ◌*◌}
use Rattle.lane_scan.specs.Ones.{ones_before}
use Rattle.lane_scan.proofs.nth_one.eights_passed.Given as goal

abbrev pub invariant-loop-i : goal.invariant-loop-i
invariant-loop-i l = ones_before l.words (l.start + 8 * l.i) + l.left ≡ ones_before l.words l.start + l.fn.n
