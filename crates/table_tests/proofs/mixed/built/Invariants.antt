use Rattle.std.proofs.Common.{◌≡◌}
use Rattle.merge_rows.specs.Steps.{stands}
use Rattle.table_tests.proofs.mixed.built.Given as goal

abbrev pub invariant-loop : goal.invariant-loop
invariant-loop l = stands l.rows.walks ≡ stands l.fn.rows.walks
