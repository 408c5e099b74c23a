use Rattle.std.proofs.Common.{◌==◌, ℕ, arith}
use Rattle.std.specs.Simd.Lanes.{chunk}
use Rattle.std.proofs.lemmas.Simd.{bitmask_splat, length-chunk}
use mir.Syntax.{w8}
use Rattle.lane_scan.proofs.Marks.{lanes_tell}
use Rattle.lane_scan.proofs.labels.labels_at.Goals as goal

pub returns : goal.returns
returns c =
    let section = c.args.section.now in
    let v = chunk c.args.at 16 section in
    let mask = bitmask_splat w8 (λ (a b : ℕ). a == b) v 16 c.args.label (length-chunk c.args.at 16 section c.requires) (omega arith) in
    rw mask (lanes_tell (λ byte. byte == c.args.label) section c.args.at c.requires)
