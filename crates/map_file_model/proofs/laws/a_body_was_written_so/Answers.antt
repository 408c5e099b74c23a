use Rattle.map_file_model.proofs.Written.{body_written}
use Rattle.map_file_model.proofs.laws.a_body_was_written_so.Goals as goal

pub returns : goal.returns
returns c = body_written
