use Rattle.std.proofs.Common.{sym}
use Rattle.louds_sparse.proofs.Searches.{next_none, next_some}
use Rattle.louds_sparse.specs.Spelling.{IsSpelled}
use Rattle.louds_sparse.proofs.sparse.Sparse.next_branch.Goals as goal

pub returns-then-place-end : goal.returns-then-place-end
returns-then-place-end g c =
    let s : IsSpelled c.self.inside.before c.self.inside.labels.items c.self.inside.has_child c.self.inside.louds c.args.self.now = rw c.self.view_is at c.self.invariant in
    sym (next_some s c.args.node c.requires.node c.bytes_of-start.ensures c.args.byte c.cut-place.result (rw c.deref.ensures.value at c.cut-place.ensures) c.if-place-end.true)

pub returns-else-place-end : goal.returns-else-place-end
returns-else-place-end g c =
    let s : IsSpelled c.self.inside.before c.self.inside.labels.items c.self.inside.has_child c.self.inside.louds c.args.self.now = rw c.self.view_is at c.self.invariant in
    sym (next_none s c.args.node c.requires.node c.bytes_of-start.ensures c.args.byte c.cut-place.result (rw c.deref.ensures.value at c.cut-place.ensures) c.if-place-end.false)
