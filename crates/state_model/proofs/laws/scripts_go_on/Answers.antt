use Rattle.state_model.specs.PlayLaws.{Allowed, Answering}
use Rattle.state_model.proofs.Chains.{goes_on}
use Rattle.state_model.proofs.laws.scripts_go_on.Goals as goal

pub returns : goal.returns
returns c causes filter_bytes states = goes_on (Allowed causes) filter_bytes (Answering states)
