use Rattle.block_model.proofs.Cutting.{blocks_are_sound, blocks_joined, blocks_step}
use Rattle.block_model.proofs.laws.blocks_are_the_entries.Goals as goal

pub returns-clause-joined : goal.returns-clause-joined
returns-clause-joined c = blocks_joined

pub returns-clause-grow : goal.returns-clause-grow
returns-clause-grow c = blocks_step

pub returns-clause-sound : goal.returns-clause-sound
returns-clause-sound c = blocks_are_sound
