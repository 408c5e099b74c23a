use Rattle.state_model.proofs.OfBytes.{lines_of_bytes, speaking_asks}
use Rattle.state_model.proofs.SoundLines.{step_sound, played_sound}
use Rattle.state_model.proofs.laws.lines_keep_sound.Goals as goal

pub returns-clause-line : goal.returns-clause-line
returns-clause-line c = step_sound

pub returns-clause-played : goal.returns-clause-played
returns-clause-played c = played_sound

pub returns-clause-bytes : goal.returns-clause-bytes
returns-clause-bytes c = lines_of_bytes

pub returns-clause-asks : goal.returns-clause-asks
returns-clause-asks c = speaking_asks
