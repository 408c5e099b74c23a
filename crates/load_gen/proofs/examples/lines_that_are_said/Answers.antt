use Rattle.std.proofs.Common.{refl}
use Rattle.std.specs.Fmt.{digits}
use Rattle.hex.specs.Hex.{encode_with}
use Rattle.load_gen.proofs.examples.lines_that_are_said.Goals as goal

pub returns-clause-seed_1 : goal.returns-clause-seed_1
unfolding digits encode_with
returns-clause-seed_1 c = refl

pub returns-clause-seed_0 : goal.returns-clause-seed_0
unfolding digits encode_with
returns-clause-seed_0 c = refl
