use Rattle.map_file_model.proofs.Written.{values_by_slots}
use Rattle.map_file_model.proofs.laws.values_stand_by_slots.Goals as goal

pub returns : goal.returns
returns c = values_by_slots
