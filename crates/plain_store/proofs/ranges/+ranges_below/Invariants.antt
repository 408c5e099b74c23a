use Rattle.std.proofs.Common.{length}
use Rattle.plain_store.proofs.ranges.+ranges_below.Given as goal

abbrev pub decreases-ranges_below : goal.decreases-ranges_below
decreases-ranges_below l = length l.ranges.now
