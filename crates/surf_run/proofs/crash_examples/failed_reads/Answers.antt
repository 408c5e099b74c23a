use Rattle.std.proofs.Common.{inr, refl, arith}
use Rattle.surf_run.proofs.crash_examples.failed_reads.Goals as goal

pub returns-clause-of_a_range : goal.returns-clause-of_a_range
returns-clause-of_a_range c = inr (1, omega arith, refl)

pub returns-clause-of_a_get : goal.returns-clause-of_a_get
returns-clause-of_a_get c found is = cc is
