use Rattle.std.proofs.Common.{◌≡◌}
use Rattle.merge_rows.specs.Steps.{stands}
use Rattle.late_tests.proofs.rows.late_steps.Given as goal

abbrev pub invariant-loop-step : goal.invariant-loop-step
invariant-loop-step l = stands l.rows.merge.walks ≡ stands l.fn.rows.merge.walks
