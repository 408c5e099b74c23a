use Rattle.std.proofs.Common.{◌≡◌}
use Rattle.merge_rows.specs.Steps.{stands}
use Rattle.compaction_tests.proofs.merging.slices.Given as goal

abbrev pub invariant-loop-count : goal.invariant-loop-count
invariant-loop-count l = stands l.job.merge.walks ≡ stands l.fn.job.merge.walks
