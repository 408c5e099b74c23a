use Rattle.std.proofs.Common.{length}
use Rattle.plain_store.proofs.lists.+oldest_first.Given as goal

abbrev pub decreases-oldest_first : goal.decreases-oldest_first
decreases-oldest_first l = length l.tables.now
