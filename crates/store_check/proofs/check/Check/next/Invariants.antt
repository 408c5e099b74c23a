use Rattle.std.proofs.Common.{◌≤◌, List}
use Rattle.std.specs.Prelude.{IsTrue}
use Rattle.image_model.specs.Findings.{Finding}
use Rattle.store_check.specs.Causes.{OnlyReads}
use Rattle.store_check.specs.Checks.{AreLeft, IsCheckOf, parts_left, steps_left}
use Rattle.store_check.proofs.check.Check.next.Given as goal

-- parts were looked at, and what is left of the others is left of all
abbrev pub invariant-parts : goal.invariant-parts
invariant-parts g l =
    let image = (g.D.Disk.world l.fn.disk).seen.held in
    let f = g.F.RangeFilter in
    record {
      of : IsTrue g.D.Disk.tells → IsCheckOf image l.fn.self → IsCheckOf image l.self;
      same : (later : List Finding) → IsTrue g.D.Disk.tells → IsCheckOf image l.fn.self → AreLeft f.spelling f.first_fault image l.self later → AreLeft f.spelling f.first_fault image l.fn.self later;
      steps : steps_left l.self ≤ steps_left l.fn.self;
      moves : OnlyReads (g.D.Disk.world l.fn.disk) (g.D.Disk.world l.disk);
    }

abbrev pub decreases-parts : goal.decreases-parts
decreases-parts g l = parts_left l.self
