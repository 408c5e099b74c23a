use Rattle.filter_model.proofs.Tallies.{tally_is_near}
use Rattle.filter_model.proofs.laws.tally_is_near.Goals as goal

pub returns : goal.returns
returns c = tally_is_near
