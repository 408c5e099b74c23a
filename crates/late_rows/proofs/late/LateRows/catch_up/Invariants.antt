use Rattle.late_rows.proofs.Turns.{SoFar}
use Rattle.late_rows.proofs.late.LateRows.catch_up.Given as goal

abbrev pub invariant-loop-at : goal.invariant-loop-at
invariant-loop-at g l = SoFar g.D.Disk.tells l.tables.tables l.at l.fn.self l.self (g.D.Disk.world l.fn.disk) (g.D.Disk.world l.disk)
