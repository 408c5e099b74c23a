use Rattle.louds_dense.proofs.Searches.{next_nowhere, next_past, next_some}
use Rattle.louds_dense.specs.Spelling.{IsSpelled}
use Rattle.louds_dense.proofs.dense.Dense.next_branch.Goals as goal

pub returns-in-Some : goal.returns-in-Some
returns-in-Some g c =
    let s : IsSpelled c.self.inside.labels c.self.inside.has_child c.self.inside.prefix c.args.self.now = rw c.self.view_is at c.self.invariant in
    next_some s c.args.node c.requires.node c.args.byte c.in-Some.place c.requires.byte (rw (c.bits-labels.ensures, c.from.ensures) at c.in-Some.ensures) c.if-place-start.true

pub returns-in_default : goal.returns-in_default
returns-in_default g c =
    let s : IsSpelled c.self.inside.labels c.self.inside.has_child c.self.inside.prefix c.args.self.now = rw c.self.view_is at c.self.invariant in
    next_past s c.args.node c.requires.node c.args.byte c.in-Some.place c.requires.byte (rw (c.bits-labels.ensures, c.from.ensures) at c.in-Some.ensures) c.if-place-start.false

pub returns-in_default-2 : goal.returns-in_default-2
returns-in_default-2 g c =
    let s : IsSpelled c.self.inside.labels c.self.inside.has_child c.self.inside.prefix c.args.self.now = rw c.self.view_is at c.self.invariant in
    next_nowhere s c.args.node c.requires.node c.args.byte c.requires.byte (rw (c.bits-labels.ensures, c.from.ensures) at c.in_default.ensures)
