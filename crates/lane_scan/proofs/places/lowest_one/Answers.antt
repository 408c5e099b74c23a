use Rattle.std.proofs.lemmas.Nat.Bits.{bit_at-trailing_zeros}
use mir.Syntax.{w64}
use Rattle.lane_scan.proofs.places.lowest_one.Goals as goal

pub returns-clause-is_set : goal.returns-clause-is_set
returns-clause-is_set c = (bit_at-trailing_zeros w64 c.args.word c.requires c.ranges.word.fits).1

pub returns-clause-before : goal.returns-clause-before
returns-clause-before c = (bit_at-trailing_zeros w64 c.args.word c.requires c.ranges.word.fits).2
