use Rattle.std.proofs.Common.{length}
use Rattle.plain_store.proofs.ranges.+ranges_from.Given as goal

abbrev pub decreases-ranges_from : goal.decreases-ranges_from
decreases-ranges_from l = length l.ranges.now
