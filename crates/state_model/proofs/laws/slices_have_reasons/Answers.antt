use Rattle.state_model.proofs.Told.{idle_reason, worked_reason, epoch_reason, room_reason}
use Rattle.state_model.proofs.laws.slices_have_reasons.Goals as goal

pub returns : goal.returns
returns c = record { idle = idle_reason; worked = worked_reason; epoch = epoch_reason; no_room = room_reason }
