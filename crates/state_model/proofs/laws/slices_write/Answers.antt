use Rattle.state_model.proofs.Unanswered.{no_room_to_write, no_epoch_to_write}
use Rattle.state_model.proofs.laws.slices_write.Goals as goal

pub returns : goal.returns
returns c = record { room = no_room_to_write; epoch = no_epoch_to_write }
