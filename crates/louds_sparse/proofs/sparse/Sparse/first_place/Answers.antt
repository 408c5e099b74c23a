use Rattle.std.proofs.Common.{ap, ◌∙◌}
use Rattle.filter_model.specs.Nodes.{first_place}
use Rattle.louds_sparse.proofs.Spelled.{number_is}
use Rattle.louds_sparse.specs.Spelling.{IsSpelled}
use Rattle.louds_sparse.proofs.sparse.Sparse.first_place.Goals as goal

pub returns : goal.returns
returns g c =
    let s : IsSpelled c.self.inside.before c.self.inside.labels.items c.self.inside.has_child c.self.inside.louds c.args.self.now = rw c.self.view_is at c.self.invariant in
    c.begin.ensures ∙ ap (first_place c.args.self.now.nodes) (number_is s c.args.node)
