use Rattle.std.proofs.Common.{◌∙◌}
use Rattle.louds_sparse.proofs.Spelled.{behind_last, first_found}
use Rattle.louds_sparse.specs.Spelling.{IsSpelled}
use Rattle.louds_sparse.proofs.sparse.Sparse.begin.Goals as goal

pub returns-in-Some : goal.returns-in-Some
returns-in-Some g c =
    let s : IsSpelled c.self.inside.before c.self.inside.labels.items c.self.inside.has_child c.self.inside.louds c.args.self.now = rw c.self.view_is at c.self.invariant in
    first_found s c.args.number c.in-Some.place c.requires c.in-Some.ensures

pub returns-in-None : goal.returns-in-None
returns-in-None g c =
    let s : IsSpelled c.self.inside.before c.self.inside.labels.items c.self.inside.has_child c.self.inside.louds c.args.self.now = rw c.self.view_is at c.self.invariant in
    c.len.ensures ∙ c.self.inside.labels.ok.0 ∙ behind_last s c.args.number c.requires c.in-None.ensures
