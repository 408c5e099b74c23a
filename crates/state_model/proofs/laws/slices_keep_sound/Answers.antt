use Rattle.state_model.proofs.SoundInstalls.{slice_sound, slice_keeps}
use Rattle.state_model.proofs.laws.slices_keep_sound.Goals as goal

pub returns-clause-sound : goal.returns-clause-sound
returns-clause-sound c = slice_sound

pub returns-clause-map : goal.returns-clause-map
returns-clause-map c = slice_keeps
