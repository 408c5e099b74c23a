use Rattle.std.proofs.Common.{◌+◌, ℕ, ap, rules}
use Rattle.lane_scan.specs.Ones.{ones_before}
use Rattle.lane_scan.proofs.Counts.{ones_before-add}
use Rattle.lane_scan.proofs.words.ones_in_lanes.Goals as goal

pub returns : goal.returns
returns c = rw (ones_before-add c.args.words.now c.args.at 4) (ap (λ (n : ℕ). ones_before c.args.words.now c.args.at + n) (search rules))
