use Rattle.std.proofs.Common.{sym}
use Rattle.louds_sparse.proofs.Searches.{searched_none, searched_some}
use Rattle.louds_sparse.specs.Spelling.{IsSpelled}
use Rattle.louds_sparse.proofs.sparse.Sparse.branch.Goals as goal

pub returns-in-Some : goal.returns-in-Some
returns-in-Some g c =
    let s : IsSpelled c.self.inside.before c.self.inside.labels.items c.self.inside.has_child c.self.inside.louds c.args.self.now = rw c.self.view_is at c.self.invariant in
    sym (searched_some s c.args.node c.requires c.searched-start.ensures c.in-Some.place c.ranges.byte.fits (rw c.deref.ensures.value at c.in-Some.ensures))

pub returns-in-None : goal.returns-in-None
returns-in-None g c =
    let s : IsSpelled c.self.inside.before c.self.inside.labels.items c.self.inside.has_child c.self.inside.louds c.args.self.now = rw c.self.view_is at c.self.invariant in
    sym (searched_none s c.args.node c.requires c.searched-start.ensures c.ranges.byte.fits (rw c.deref.ensures.value at c.in-None.ensures))
