use Rattle.std.proofs.Common.{refl}
use Rattle.std.specs.Fmt.{digits}
use Rattle.hex.specs.Hex.{encode_with}
use Rattle.line_model.proofs.spelled.texts_of_replies.Goals as goal

pub returns-clause-with_a_value : goal.returns-clause-with_a_value
unfolding encode_with
returns-clause-with_a_value c = refl

pub returns-clause-with_a_number : goal.returns-clause-with_a_number
unfolding digits
returns-clause-with_a_number c = refl

pub returns-clause-of_a_broken_rule : goal.returns-clause-of_a_broken_rule
unfolding digits
returns-clause-of_a_broken_rule c = refl
