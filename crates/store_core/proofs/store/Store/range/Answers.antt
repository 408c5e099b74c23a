use Rattle.std.proofs.Common.{refl}
use Rattle.store_core.proofs.store.Store.range.Goals as goal

pub returns-clause-bounded : goal.returns-clause-bounded
returns-clause-bounded g c s image seen = c.scan.ensures.bounded s image c.args.high.now seen refl
