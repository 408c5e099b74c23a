use Rattle.std.proofs.Common.{length}
use Rattle.plain_store.proofs.installing.+push_left.Given as goal

abbrev pub decreases-push_left : goal.decreases-push_left
decreases-push_left l = length l.tables.now
