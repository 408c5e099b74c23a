use Rattle.std.proofs.Common.{◌≡◌, ◌+◌, ◌-◌, ◌++◌, ◌≤◌, ◌*◌, ◌∙◌, ap, arith, length, length-append, subst, take, Bool}
use Rattle.std.specs.Prelude.{count_by}
use Rattle.filter_codec.specs.Tree.{AreSparse, Tree}
use Rattle.filter_codec.proofs.Trees.{both_below, child_bits, children_count, dense_below, dense_children_all, ends_count, sparse_below}
use Rattle.filter_image_model.specs.Levels.{children_of}
use Rattle.louds_dense.proofs.Ranks.{node_within}
use Rattle.louds_dense.specs.Spelling.{IsSpelled}
use Rattle.filter_codec.proofs.tree.Packed.children_before.Goals as goal

pub rank-requires : goal.rank-requires
rank-requires g c =
    let p = c.self.inside in
    let d : IsSpelled p.dense_labels p.dense_children p.dense_ends c.args.self.now.dense = subst (IsSpelled p.dense_labels p.dense_children p.dense_ends) (ap (λ (t : Tree). t.dense) c.self.view_is) c.self.invariant.0 in
    let s : AreSparse p.labels.items p.children p.louds c.args.self.now.sparse = subst (AreSparse p.labels.items p.children p.louds) (ap (λ (t : Tree). t.sparse) c.self.view_is) c.self.invariant.1 in
    let n : c.len-dense.result ≡ length c.args.self.now.dense = c.len-dense.ensures ∙ ap length c.bits.ensures ∙ ends_count d in
    omega (arith, n, child_bits d)

pub returns-then-nodes-dense-clause-children : goal.returns-then-nodes-dense-clause-children
returns-then-nodes-dense-clause-children g c =
    let p = c.self.inside in
    let d : IsSpelled p.dense_labels p.dense_children p.dense_ends c.args.self.now.dense = subst (IsSpelled p.dense_labels p.dense_children p.dense_ends) (ap (λ (t : Tree). t.dense) c.self.view_is) c.self.invariant.0 in
    let s : AreSparse p.labels.items p.children p.louds c.args.self.now.sparse = subst (AreSparse p.labels.items p.children p.louds) (ap (λ (t : Tree). t.sparse) c.self.view_is) c.self.invariant.1 in
    let n : c.len-dense.result ≡ length c.args.self.now.dense = c.len-dense.ensures ∙ ap length c.bits.ensures ∙ ends_count d in
    c.rank.ensures ∙ dense_below d c.args.nodes c.args.self.now.sparse (omega (arith, n))

pub rank-requires-2 : goal.rank-requires-2
rank-requires-2 g c =
    let p = c.self.inside in
    let d : IsSpelled p.dense_labels p.dense_children p.dense_ends c.args.self.now.dense = subst (IsSpelled p.dense_labels p.dense_children p.dense_ends) (ap (λ (t : Tree). t.dense) c.self.view_is) c.self.invariant.0 in
    let s : AreSparse p.labels.items p.children p.louds c.args.self.now.sparse = subst (AreSparse p.labels.items p.children p.louds) (ap (λ (t : Tree). t.sparse) c.self.view_is) c.self.invariant.1 in
    let n : c.len-dense.result ≡ length c.args.self.now.dense = c.len-dense.ensures ∙ ap length c.bits.ensures ∙ ends_count d in
    omega (arith, n, child_bits d)

pub rank-requires-3 : goal.rank-requires-3
rank-requires-3 g c =
    let p = c.self.inside in
    let d : IsSpelled p.dense_labels p.dense_children p.dense_ends c.args.self.now.dense = subst (IsSpelled p.dense_labels p.dense_children p.dense_ends) (ap (λ (t : Tree). t.dense) c.self.view_is) c.self.invariant.0 in
    let s : AreSparse p.labels.items p.children p.louds c.args.self.now.sparse = subst (AreSparse p.labels.items p.children p.louds) (ap (λ (t : Tree). t.sparse) c.self.view_is) c.self.invariant.1 in
    let n : c.len-dense.result ≡ length c.args.self.now.dense = c.len-dense.ensures ∙ ap length c.bits.ensures ∙ ends_count d in
    let few : c.args.nodes - c.len-dense.result ≤ length c.args.self.now.sparse = omega (arith, n, length-append c.args.self.now.dense c.args.self.now.sparse) in
    omega (arith, c.begin-place.ensures, node_within c.args.self.now.sparse (c.args.nodes - c.len-dense.result) few, children_count s)

pub returns-clause-children : goal.returns-clause-children
returns-clause-children g c =
    let p = c.self.inside in
    let d : IsSpelled p.dense_labels p.dense_children p.dense_ends c.args.self.now.dense = subst (IsSpelled p.dense_labels p.dense_children p.dense_ends) (ap (λ (t : Tree). t.dense) c.self.view_is) c.self.invariant.0 in
    let s : AreSparse p.labels.items p.children p.louds c.args.self.now.sparse = subst (AreSparse p.labels.items p.children p.louds) (ap (λ (t : Tree). t.sparse) c.self.view_is) c.self.invariant.1 in
    let n : c.len-dense.result ≡ length c.args.self.now.dense = c.len-dense.ensures ∙ ap length c.bits.ensures ∙ ends_count d in
    let ds = c.args.self.now.dense in
    let ss = c.args.self.now.sparse in
    let v = c.args.nodes - c.len-dense.result in
    let upper : c.rank-2.result ≡ children_of ds = c.rank-2.ensures ∙ ap (λ k. count_by (λ (b : Bool). b) (take (256 * k) p.dense_children)) n ∙ dense_children_all d in
    let lower : c.rank-3.result ≡ children_of (take v ss) = c.rank-3.ensures ∙ sparse_below s v c.begin-place.result c.begin-place.ensures in
    let nodes : length ds + v ≡ c.args.nodes = omega (arith, n) in
    (λ j. upper j + lower j) ∙ both_below ds ss v ∙ ap (λ k. children_of (take k (ds ++ ss))) nodes
