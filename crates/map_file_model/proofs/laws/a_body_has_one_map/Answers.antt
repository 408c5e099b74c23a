use Rattle.map_file_model.proofs.Decided.{one_map}
use Rattle.map_file_model.proofs.laws.a_body_has_one_map.Goals as goal

pub returns : goal.returns
returns c = one_map
