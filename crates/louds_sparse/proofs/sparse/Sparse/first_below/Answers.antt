use Rattle.std.proofs.Common.{ap, arith}
use Rattle.louds_sparse.proofs.Spelled.{children_counted}
use Rattle.trie_model.specs.declared.parts.Before.{Before}
use Rattle.louds_sparse.specs.Spelling.{IsSpelled}
use Rattle.louds_sparse.proofs.sparse.Sparse.first_below.Goals as goal

pub returns : goal.returns
returns g c =
    let s : IsSpelled c.self.inside.before c.self.inside.labels.items c.self.inside.has_child c.self.inside.louds c.args.self.now = rw c.self.view_is at c.self.invariant in
    omega (arith, ap (λ (b : Before). b.children) s.before_is, c.rank.ensures, children_counted s c.args.place)
