use Rattle.std.proofs.Common.{◌≤◌, ◌%◌, ◌^◌, ℕ, Bool, List, map, length, nat_le, ap, ◌∙◌, arith, replicate}
use Rattle.std.specs.Simd.Lanes.{chunk, mask_l}
use Rattle.std.proofs.lemmas.Simd.{tops_compared, zip2_splat_left, mask_l-mod, length-chunk}
use Rattle.std.proofs.lemmas.List.{length-map}
use mir.Syntax.{w8}
use Rattle.lane_scan.proofs.Marks.{lanes_tell}
use Rattle.lane_scan.proofs.labels.least_at.Goals as goal

pub returns : goal.returns
returns c =
    let section = c.args.section.now in
    let v = chunk c.args.at 16 section in
    let long = length-chunk c.args.at 16 section c.requires in
    let passes = map (λ (b : ℕ). nat_le c.args.label b) v in
    let short : length passes ≤ 64 = omega (arith, length-map v (λ (b : ℕ). nat_le c.args.label b), long) in
    let mask = ap (λ (ms : List Bool). mask_l ms % 2 ^ 64) (tops_compared w8 nat_le (replicate 16 c.args.label) v ∙ zip2_splat_left nat_le c.args.label 16 v long)
    ∙ mask_l-mod passes 64 short in
    rw mask (lanes_tell (λ byte. nat_le c.args.label byte) section c.args.at c.requires)
