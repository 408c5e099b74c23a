use Rattle.std.proofs.Common.{ap, arith, subst}
use Rattle.filter_codec.proofs.Endings.{leaves_at}
use Rattle.filter_codec.proofs.Trees.{child_bits, label_bits}
use Rattle.filter_codec.specs.Tree.{Tree}
use Rattle.louds_dense.specs.Spelling.{IsSpelled}
use Rattle.filter_codec.proofs.tree.Packed.leaves_before.Goals as goal

pub rank-requires : goal.rank-requires
rank-requires g c =
    let p = c.self.inside in
    let d : IsSpelled p.dense_labels p.dense_children p.dense_ends c.args.self.now.dense = subst (IsSpelled p.dense_labels p.dense_children p.dense_ends) (ap (λ (t : Tree). t.dense) c.self.view_is) c.self.invariant.0 in
    omega (arith, c.requires, label_bits d)

pub rank-requires-3 : goal.rank-requires-3
rank-requires-3 g c =
    let p = c.self.inside in
    let d : IsSpelled p.dense_labels p.dense_children p.dense_ends c.args.self.now.dense = subst (IsSpelled p.dense_labels p.dense_children p.dense_ends) (ap (λ (t : Tree). t.dense) c.self.view_is) c.self.invariant.0 in
    omega (arith, c.requires, child_bits d)

pub overflow_sub-result : goal.overflow_sub-result
overflow_sub-result g c =
    let p = c.self.inside in
    let d : IsSpelled p.dense_labels p.dense_children p.dense_ends c.args.self.now.dense = subst (IsSpelled p.dense_labels p.dense_children p.dense_ends) (ap (λ (t : Tree). t.dense) c.self.view_is) c.self.invariant.0 in
    omega (arith, leaves_at d c.args.node c.rank.result c.rank-2.result c.rank-3.result c.requires c.rank.ensures c.rank-2.ensures c.rank-3.ensures)

pub returns-clause-count : goal.returns-clause-count
returns-clause-count g c =
    let p = c.self.inside in
    let d : IsSpelled p.dense_labels p.dense_children p.dense_ends c.args.self.now.dense = subst (IsSpelled p.dense_labels p.dense_children p.dense_ends) (ap (λ (t : Tree). t.dense) c.self.view_is) c.self.invariant.0 in
    omega (arith, leaves_at d c.args.node c.rank.result c.rank-2.result c.rank-3.result c.requires c.rank.ensures c.rank-2.ensures c.rank-3.ensures)
