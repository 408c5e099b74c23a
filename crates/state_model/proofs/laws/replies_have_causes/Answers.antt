use Rattle.state_model.proofs.Told.{line_told, refused_told}
use Rattle.state_model.proofs.laws.replies_have_causes.Goals as goal

pub returns-clause-line : goal.returns-clause-line
returns-clause-line c = line_told

pub returns-clause-slice : goal.returns-clause-slice
returns-clause-slice c = refused_told
