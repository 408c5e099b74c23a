use Rattle.std.proofs.Common.{length}
use Rattle.plain_store.proofs.placing.+placed.Given as goal

abbrev pub decreases-placed : goal.decreases-placed
decreases-placed g l = length l.outputs.now
