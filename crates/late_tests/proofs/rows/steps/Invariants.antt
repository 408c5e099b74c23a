use Rattle.std.proofs.Common.{◌≡◌}
use Rattle.merge_rows.specs.Steps.{stands}
use Rattle.late_tests.proofs.rows.steps.Given as goal

abbrev pub invariant-loop-step : goal.invariant-loop-step
invariant-loop-step l = stands l.rows.walks ≡ stands l.fn.rows.walks
