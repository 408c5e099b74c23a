use Rattle.std.proofs.Common.{rules}
use Rattle.range_model.proofs.Silence.{before_none}
use Rattle.store_core.proofs.opening.may_follow.Goals as goal

-- the end of no ranges comes after no key
pub returns-else-row-eq0 : goal.returns-else-row-eq0
returns-else-row-eq0 g c =
    let never = before_none c.args.table.now.index.least in
    search rules
