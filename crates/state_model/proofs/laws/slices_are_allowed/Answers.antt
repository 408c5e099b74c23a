use Rattle.state_model.proofs.Slices.{sliced_is_allowed}
use Rattle.state_model.proofs.laws.slices_are_allowed.Goals as goal

pub returns : goal.returns
returns c = sliced_is_allowed
