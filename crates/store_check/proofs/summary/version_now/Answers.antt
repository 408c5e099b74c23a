use Rattle.std.proofs.Common.{subst}
use Rattle.manifest.specs.Loading.{IsFree}
use Rattle.store_check.proofs.summary.version_now.Goals as goal

pub returns-in-Err-Damaged-clause-exact : goal.returns-in-Err-Damaged-clause-exact
returns-in-Err-Damaged-clause-exact g c v tells is = subst IsFree c.in-Err-Damaged.field-0-is (c.in-Err-Damaged.ensures.exact v tells is)
