use Rattle.std.proofs.Common.{◌≡◌, ◌-◌, suc, ap, ◌∙◌, arith}
use Rattle.std.specs.Int.{bit_at}
use Rattle.std.proofs.lemmas.Nat.{leading_top}
use Rattle.std.proofs.lemmas.Nat.Bits.{bit_at_above}
use lib.Count.{count_leading_zeros}
use Rattle.lane_scan.proofs.Bits.{highest}
use Rattle.lane_scan.proofs.places.highest_one.Goals as goal

pub returns-clause-is_set : goal.returns-clause-is_set
returns-clause-is_set c =
    let top = leading_top 64 c.args.word c.requires c.ranges.word.fits in
    let place : 63 - count_leading_zeros 64 c.args.word ≡ top.0 = omega (arith, top.1) in
    ap (bit_at c.args.word) place ∙ highest c.args.word top.0 top.2 top.3

pub returns-clause-behind : goal.returns-clause-behind
returns-clause-behind c = λ j above.
    let top = leading_top 64 c.args.word c.requires c.ranges.word.fits in
    bit_at_above c.args.word (suc top.0) j top.3 (omega (arith, top.1))
