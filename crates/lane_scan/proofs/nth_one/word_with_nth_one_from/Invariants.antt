use Rattle.std.proofs.Common.{◌≡◌, ◌+◌}
use Rattle.lane_scan.specs.Ones.{ones_before}
use Rattle.lane_scan.proofs.nth_one.word_with_nth_one_from.Given as goal

abbrev pub invariant-loop-k : goal.invariant-loop-k
invariant-loop-k l = ones_before l.words l.k + l.rest ≡ ones_before l.words l.fn.start + l.fn.n
