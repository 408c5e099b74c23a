use Rattle.std.proofs.Common.{refl}
use Rattle.std.specs.Fmt.{digits}
use Rattle.map_run_model.proofs.examples.last_lines.Goals as goal

pub returns-clause-a_bad_line : goal.returns-clause-a_bad_line
unfolding digits
returns-clause-a_bad_line c = refl

pub returns-clause-too_large : goal.returns-clause-too_large
unfolding digits
returns-clause-too_large c = refl

pub returns-clause-a_damaged_map : goal.returns-clause-a_damaged_map
unfolding digits
returns-clause-a_damaged_map c = refl
