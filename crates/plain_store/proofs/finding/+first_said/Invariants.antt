use Rattle.std.proofs.Common.{length}
use Rattle.plain_store.proofs.finding.+first_said.Given as goal

abbrev pub decreases-first_said : goal.decreases-first_said
decreases-first_said l = length l.tables.now
