use Rattle.std.proofs.Common.{arith}
use Rattle.store_check.proofs.Parts.{drop_none}
use Rattle.store_check.proofs.check.Check.looks_on.Goals as goal

pub returns-else-self-len-clause-over : goal.returns-else-self-len-clause-over
returns-else-self-len-clause-over c over none =
    let self = c.args.self.now in
    absurd (omega (arith, c.if-self-len.false, drop_none self.place self.found.items none, self.placed, self.found.ok.0, c.len.ensures))
