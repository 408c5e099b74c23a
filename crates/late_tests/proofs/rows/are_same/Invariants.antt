use Rattle.std.proofs.Common.{◌≡◌}
use Rattle.merge_rows.specs.Steps.{stands}
use Rattle.late_tests.proofs.rows.are_same.Given as goal

abbrev pub invariant-loop-step : goal.invariant-loop-step
invariant-loop-step l = record {
  late : stands l.late.merge.walks ≡ stands l.fn.late.merge.walks;
  all : stands l.all.walks ≡ stands l.fn.all.walks;
}
