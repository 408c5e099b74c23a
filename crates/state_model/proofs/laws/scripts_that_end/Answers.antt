use Rattle.state_model.specs.PlayLaws.{Allowed, Answering}
use Rattle.state_model.proofs.Ended.{ended, ended_answers}
use Rattle.state_model.proofs.laws.scripts_that_end.Goals as goal

pub returns : goal.returns
returns c = record {
  last = λ causes filter_bytes states. ended (Allowed causes) filter_bytes (Answering states);
  answers = λ causes filter_bytes states. ended_answers (Allowed causes) filter_bytes (Answering states);
}
