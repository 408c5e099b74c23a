use Rattle.state_model.specs.PlayLaws.{Allowed, Answering}
use Rattle.state_model.proofs.Ended.{answers_went_on}
use Rattle.state_model.proofs.laws.answers_go_on.Goals as goal

pub returns : goal.returns
returns c causes filter_bytes states = answers_went_on (Allowed causes) filter_bytes (Answering states)
