use Rattle.std.proofs.Common.{drop}
use Rattle.manifest.proofs.Judged.{Judged}
use Rattle.manifest.proofs.reading.judged_rows.Given as goal

abbrev pub invariant-loop-i : goal.invariant-loop-i
invariant-loop-i l = Judged l.format l.head l.pages l.i (drop 64 l.body) l.rows.items l.level l.zeros l.shape l.order l.meeting l.taken
