use Rattle.std.proofs.Common.{length}
use Rattle.plain_store.proofs.ranges.+covers.Given as goal

abbrev pub decreases-covers : goal.decreases-covers
decreases-covers l = length l.ranges.now
