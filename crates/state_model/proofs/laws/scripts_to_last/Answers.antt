use Rattle.state_model.specs.PlayLaws.{Allowed, Answering}
use Rattle.state_model.proofs.ToLast.{went_to_last}
use Rattle.state_model.proofs.laws.scripts_to_last.Goals as goal

pub returns : goal.returns
returns c causes filter_bytes states = went_to_last (Allowed causes) filter_bytes (Answering states)
