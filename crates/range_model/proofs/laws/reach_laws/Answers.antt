use Rattle.range_model.proofs.Reach.{nothing_below, nothing_from}
use Rattle.range_model.proofs.Silence.{silent_from}
use Rattle.range_model.proofs.laws.reach_laws.Goals as goal

pub returns-clause-below : goal.returns-clause-below
returns-clause-below c = nothing_below

pub returns-clause-from : goal.returns-clause-from
returns-clause-from c = nothing_from

pub returns-clause-silent : goal.returns-clause-silent
returns-clause-silent c = silent_from
