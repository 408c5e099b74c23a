use Rattle.map_file_model.proofs.Decided.{bodies_decided}
use Rattle.map_file_model.proofs.ReadAgain.{body_again}
use Rattle.map_file_model.proofs.laws.a_body_is_read_again.Goals as goal

pub returns : goal.returns
returns c = record { law = body_again; decided = bodies_decided }
