use Rattle.std.proofs.Common.{◌≡◌}
use Rattle.merge_rows.specs.Steps.{stands}
use Rattle.table_tests.proofs.merges.are_rows.Given as goal

abbrev pub invariant-loop-key : goal.invariant-loop-key
invariant-loop-key l = stands l.rows.walks ≡ stands l.fn.rows.walks
