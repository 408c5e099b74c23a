use Rattle.state_model.proofs.Unanswered.{reads_blocks}
use Rattle.state_model.proofs.laws.slices_read_blocks.Goals as goal

pub returns : goal.returns
returns c = reads_blocks
