use Rattle.std.proofs.Common.{refl}
use Rattle.std.specs.Fmt.{digits}
use Rattle.state_model.proofs.examples.played_texts.Goals as goal

pub returns-clause-of_bad_lines : goal.returns-clause-of_bad_lines
unfolding digits
returns-clause-of_bad_lines c = refl
