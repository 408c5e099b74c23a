use Rattle.std.proofs.Common.{length}
use Rattle.plain_store.proofs.bounds.+seek_blocks.Given as goal

abbrev pub decreases-seek_blocks : goal.decreases-seek_blocks
decreases-seek_blocks g l = length l.tables.now
