use Rattle.state_model.proofs.SoundChanges.{new_sound}
use Rattle.state_model.proofs.laws.new_is_sound.Goals as goal

pub returns : goal.returns
returns c = new_sound
