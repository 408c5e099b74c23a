use Rattle.late_rows.specs.Going.{GoesOn, ReadsOn}
use Rattle.late_rows.proofs.Awake.{sleepers}
use Rattle.late_rows.proofs.late.LateRows.advance.Given as goal

-- no row was handed out yet
abbrev pub invariant-loop-next : goal.invariant-loop-next
invariant-loop-next g l = record {
  goes : GoesOn g.D.Disk.tells l.tables.tables l.fn.self l.self (g.D.Disk.world l.fn.disk) (g.D.Disk.world l.disk);
  reads : ReadsOn g.D.Disk.tells l.tables.tables l.fn.self l.self (g.D.Disk.world l.fn.disk) (g.D.Disk.world l.disk);
}

-- each time one more is awake
abbrev pub decreases-loop-next : goal.decreases-loop-next
decreases-loop-next g l = sleepers l.self.asleep
