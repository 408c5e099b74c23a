use Rattle.std.proofs.Common.{◌≡◌, List}
use Rattle.image_model.specs.Findings.{Finding}
use Rattle.store_check.specs.Checks.{steps_left}
use Rattle.surf_run.specs.Checks.{CheckedSoFar, counted}
use Rattle.surf_run.proofs.checking.run_check.Given as goal

-- some findings were given and said, and that many
abbrev pub invariant-findings : goal.invariant-findings
invariant-findings g l =
    let f = g.F.RangeFilter in
    (given : List Finding) × CheckedSoFar f.spelling f.first_fault g.W.Disk.tells g.W.Outside.tells_output l.check given (g.W.Disk.world l.fn.out) (g.W.Disk.world l.out) × (l.found ≡ counted given)

abbrev pub decreases-findings : goal.decreases-findings
decreases-findings g l = steps_left l.check
