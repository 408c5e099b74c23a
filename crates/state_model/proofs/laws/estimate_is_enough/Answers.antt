use Rattle.state_model.proofs.Estimates.{estimate_enough}
use Rattle.state_model.proofs.laws.estimate_is_enough.Goals as goal

pub returns : goal.returns
returns c = estimate_enough
