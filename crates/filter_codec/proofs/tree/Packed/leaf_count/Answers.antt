use Rattle.std.proofs.Common.{◌≡◌, ◌∙◌, ap, arith, length, subst}
use Rattle.filter_codec.specs.Tree.{AreSparse, Tree}
use Rattle.filter_codec.proofs.Trees.{child_bits, ends_count, label_bits, leaves_left}
use Rattle.louds_dense.specs.Spelling.{IsSpelled}
use Rattle.filter_codec.proofs.tree.Packed.leaf_count.Goals as goal

pub rank-requires : goal.rank-requires
rank-requires g c =
    let p = c.self.inside in
    let d : IsSpelled p.dense_labels p.dense_children p.dense_ends c.args.self.now.dense = subst (IsSpelled p.dense_labels p.dense_children p.dense_ends) (ap (λ (t : Tree). t.dense) c.self.view_is) c.self.invariant.0 in
    let s : AreSparse p.labels.items p.children p.louds c.args.self.now.sparse = subst (AreSparse p.labels.items p.children p.louds) (ap (λ (t : Tree). t.sparse) c.self.view_is) c.self.invariant.1 in
    let n : c.len-dense.result ≡ length c.args.self.now.dense = c.len-dense.ensures ∙ ap length c.bits.ensures ∙ ends_count d in
    omega (arith, n, label_bits d)

pub rank-requires-3 : goal.rank-requires-3
rank-requires-3 g c =
    let p = c.self.inside in
    let d : IsSpelled p.dense_labels p.dense_children p.dense_ends c.args.self.now.dense = subst (IsSpelled p.dense_labels p.dense_children p.dense_ends) (ap (λ (t : Tree). t.dense) c.self.view_is) c.self.invariant.0 in
    let s : AreSparse p.labels.items p.children p.louds c.args.self.now.sparse = subst (AreSparse p.labels.items p.children p.louds) (ap (λ (t : Tree). t.sparse) c.self.view_is) c.self.invariant.1 in
    let n : c.len-dense.result ≡ length c.args.self.now.dense = c.len-dense.ensures ∙ ap length c.bits.ensures ∙ ends_count d in
    omega (arith, n, child_bits d)

pub overflow_sub-result : goal.overflow_sub-result
overflow_sub-result g c =
    let p = c.self.inside in
    let d : IsSpelled p.dense_labels p.dense_children p.dense_ends c.args.self.now.dense = subst (IsSpelled p.dense_labels p.dense_children p.dense_ends) (ap (λ (t : Tree). t.dense) c.self.view_is) c.self.invariant.0 in
    let s : AreSparse p.labels.items p.children p.louds c.args.self.now.sparse = subst (AreSparse p.labels.items p.children p.louds) (ap (λ (t : Tree). t.sparse) c.self.view_is) c.self.invariant.1 in
    let n : c.len-dense.result ≡ length c.args.self.now.dense = c.len-dense.ensures ∙ ap length c.bits.ensures ∙ ends_count d in
    let e = leaves_left d s c.len-dense.result c.len-labels.result c.rank.result c.rank-2.result c.rank-3.result c.rank-4.result n (c.len-labels.ensures ∙ c.self.inside.labels.ok.0) c.rank.ensures c.rank-2.ensures c.rank-3.ensures c.rank-4.ensures in
    omega (arith, e)

pub returns : goal.returns
returns g c =
    let p = c.self.inside in
    let d : IsSpelled p.dense_labels p.dense_children p.dense_ends c.args.self.now.dense = subst (IsSpelled p.dense_labels p.dense_children p.dense_ends) (ap (λ (t : Tree). t.dense) c.self.view_is) c.self.invariant.0 in
    let s : AreSparse p.labels.items p.children p.louds c.args.self.now.sparse = subst (AreSparse p.labels.items p.children p.louds) (ap (λ (t : Tree). t.sparse) c.self.view_is) c.self.invariant.1 in
    let n : c.len-dense.result ≡ length c.args.self.now.dense = c.len-dense.ensures ∙ ap length c.bits.ensures ∙ ends_count d in
    let e = leaves_left d s c.len-dense.result c.len-labels.result c.rank.result c.rank-2.result c.rank-3.result c.rank-4.result n (c.len-labels.ensures ∙ c.self.inside.labels.ok.0) c.rank.ensures c.rank-2.ensures c.rank-3.ensures c.rank-4.ensures in
    omega (arith, e)
