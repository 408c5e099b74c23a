use Rattle.std.proofs.Common.{length}
use Rattle.plain_store.proofs.bounds.+searched.Given as goal

abbrev pub decreases-searched : goal.decreases-searched
decreases-searched g l = length l.tables.now
