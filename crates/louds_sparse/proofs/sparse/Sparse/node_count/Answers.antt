use Rattle.std.proofs.Common.{ap, ◌∙◌}
use Rattle.bit_select.proofs.Selecting.{ones_all}
use Rattle.bit_model.specs.Packed.{packed}
use Rattle.louds_sparse.specs.Spelling.{IsSpelled}
use Rattle.louds_sparse.proofs.Spelled.{set_bits}
use Rattle.louds_sparse.proofs.sparse.Sparse.node_count.Goals as goal

pub returns : goal.returns
returns g c =
    let s : IsSpelled c.self.inside.before c.self.inside.labels.items c.self.inside.has_child c.self.inside.louds c.args.self.now = rw c.self.view_is at c.self.invariant in
    c.ones.ensures ∙ ones_all c.self.inside.louds c.words.result.now (c.words.ensures.value ∙ ap (packed 64) c.bits.ensures) ∙ set_bits s
