use Rattle.std.proofs.Common.{ap, arith}
use Rattle.louds_sparse.proofs.Spelled.{children_counted, counts_add}
use Rattle.trie_model.specs.declared.parts.Before.{Before}
use Rattle.louds_sparse.specs.Spelling.{IsSpelled}
use Rattle.louds_sparse.proofs.sparse.Sparse.leaf_slot.Goals as goal

pub returns : goal.returns
returns g c =
    let s : IsSpelled c.self.inside.before c.self.inside.labels.items c.self.inside.has_child c.self.inside.louds c.args.self.now = rw c.self.view_is at c.self.invariant in
    omega (arith, ap (λ (b : Before). b.slots) s.before_is, c.rank.ensures, children_counted s c.args.place, counts_add s c.args.place c.requires)
