use Rattle.state_model.proofs.SoundChanges.{flushed_sound, written_sound}
use Rattle.state_model.proofs.laws.changes_keep_sound.Goals as goal

pub returns-clause-flush : goal.returns-clause-flush
returns-clause-flush c = flushed_sound

pub returns-clause-write : goal.returns-clause-write
returns-clause-write c = written_sound
