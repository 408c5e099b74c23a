use Rattle.std.proofs.Common.{refl}
use Rattle.block_format.specs.Walking.{at_hand}
use Rattle.block_format.proofs.cursor.BlockCursor.new.Goals as goal

pub returns : goal.returns
unfolding at_hand
returns c = refl
