use Rattle.std.proofs.Common.{◌∙◌, ap, arith, length, subst}
use Rattle.filter_codec.proofs.Trees.{ends_count}
use Rattle.filter_codec.specs.Tree.{Tree}
use Rattle.louds_dense.specs.Spelling.{IsSpelled}
use Rattle.filter_codec.proofs.tree.Packed.dense_count.Goals as goal

pub returns-clause-count : goal.returns-clause-count
returns-clause-count g c =
    let p = c.self.inside in
    let d : IsSpelled p.dense_labels p.dense_children p.dense_ends c.args.self.now.dense = subst (IsSpelled p.dense_labels p.dense_children p.dense_ends) (ap (λ (t : Tree). t.dense) c.self.view_is) c.self.invariant.0 in
    c.len.ensures ∙ ap length c.bits.ensures ∙ ends_count d

pub returns-clause-few : goal.returns-clause-few
returns-clause-few g c =
    let p = c.self.inside in
    let d : IsSpelled p.dense_labels p.dense_children p.dense_ends c.args.self.now.dense = subst (IsSpelled p.dense_labels p.dense_children p.dense_ends) (ap (λ (t : Tree). t.dense) c.self.view_is) c.self.invariant.0 in
    omega (arith, c.len.ensures ∙ ap length c.bits.ensures ∙ ends_count d, d.few)
