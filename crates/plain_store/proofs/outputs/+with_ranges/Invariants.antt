use Rattle.std.proofs.Common.{length}
use Rattle.plain_store.proofs.outputs.+with_ranges.Given as goal

abbrev pub decreases-with_ranges : goal.decreases-with_ranges
decreases-with_ranges l = length l.outputs.now
