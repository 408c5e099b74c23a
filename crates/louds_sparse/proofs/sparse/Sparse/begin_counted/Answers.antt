use Rattle.std.proofs.Common.{◌∙◌, arith}
use Rattle.louds_sparse.proofs.Counted.{place_within}
use Rattle.louds_sparse.proofs.Spelled.{children_counted, length_children}
use Rattle.louds_sparse.specs.Spelling.{IsSpelled}
use Rattle.louds_sparse.proofs.sparse.Sparse.begin_counted.Goals as goal

pub rank-requires : goal.rank-requires
rank-requires g c =
    let s : IsSpelled c.self.inside.before c.self.inside.labels.items c.self.inside.has_child c.self.inside.louds c.args.self.now = rw c.self.view_is at c.self.invariant in
    omega (arith, c.begin-place.ensures, place_within s c.args.number c.requires, length_children s)

pub returns-in-None-clause-leading : goal.returns-in-None-clause-leading
returns-in-None-clause-leading g c =
    let s : IsSpelled c.self.inside.before c.self.inside.labels.items c.self.inside.has_child c.self.inside.louds c.args.self.now = rw c.self.view_is at c.self.invariant in
    c.rank.ensures ∙ children_counted s c.begin-place.result
