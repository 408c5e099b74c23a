use Rattle.state_model.proofs.SoundCompaction.{compacted_sound}
use Rattle.state_model.proofs.laws.compaction_keeps_sound.Goals as goal

pub returns : goal.returns
returns c = compacted_sound
