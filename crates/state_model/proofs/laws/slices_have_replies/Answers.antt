use Rattle.state_model.proofs.Tied.{slice_memory_told, slice_read_told, slice_damage_told, slice_write_told, slice_room_told}
use Rattle.state_model.proofs.laws.slices_have_replies.Goals as goal

pub returns : goal.returns
returns c = record {
  memory = slice_memory_told;
  read = slice_read_told;
  damage = slice_damage_told;
  write = slice_write_told;
  room = slice_room_told;
}
