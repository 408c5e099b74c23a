use Rattle.filter_model.proofs.LeastStrings.{past_is_below}
use Rattle.filter_model.proofs.laws.past_is_below.Goals as goal

pub returns : goal.returns
returns c = past_is_below
