use Rattle.std.proofs.Common.{sym}
use Rattle.louds_sparse.proofs.Searches.{prev_none, prev_some}
use Rattle.louds_sparse.specs.Spelling.{IsSpelled}
use Rattle.louds_sparse.proofs.sparse.Sparse.prev_branch.Goals as goal

pub returns-then-behind-start : goal.returns-then-behind-start
returns-then-behind-start g c =
    let s : IsSpelled c.self.inside.before c.self.inside.labels.items c.self.inside.has_child c.self.inside.louds c.args.self.now = rw c.self.view_is at c.self.invariant in
    sym (prev_some s c.args.node c.requires.node c.bytes_of-start.ensures c.args.byte c.cut-behind.result (rw c.deref.ensures.value at c.cut-behind.ensures) c.if-behind-start.true)

pub returns-else-behind-start : goal.returns-else-behind-start
returns-else-behind-start g c =
    let s : IsSpelled c.self.inside.before c.self.inside.labels.items c.self.inside.has_child c.self.inside.louds c.args.self.now = rw c.self.view_is at c.self.invariant in
    sym (prev_none s c.args.node c.requires.node c.bytes_of-start.ensures c.args.byte c.cut-behind.result c.requires.byte (rw c.deref.ensures.value at c.cut-behind.ensures) c.if-behind-start.false)
