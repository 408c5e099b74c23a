use Rattle.std.proofs.Common.{length}
use Rattle.plain_store.proofs.ranges.+with_range.Given as goal

abbrev pub decreases-with_range : goal.decreases-with_range
decreases-with_range l = length l.ranges.now
