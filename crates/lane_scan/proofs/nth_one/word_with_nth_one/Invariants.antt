use Rattle.std.proofs.Common.{◌≡◌, ◌+◌}
use Rattle.lane_scan.specs.Ones.{ones_before}
use Rattle.lane_scan.proofs.nth_one.word_with_nth_one.Given as goal

abbrev pub invariant-loop-i : goal.invariant-loop-i
invariant-loop-i l = ones_before l.words l.i + l.left ≡ l.fn.n
