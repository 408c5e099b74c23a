use Rattle.std.proofs.Common.{◌≡◌, ◌∙◌, ap, arith, length, subst}
use Rattle.std.proofs.lemmas.List.{take_all}
use Rattle.filter_codec.proofs.Endings.{leaves_to}
use Rattle.filter_codec.proofs.Trees.{children_count, ends_count, labels_count}
use Rattle.filter_codec.specs.Tree.{AreSparse, Tree}
use Rattle.filter_image_model.specs.Levels.{leaf_count_of}
use Rattle.louds_dense.specs.Spelling.{IsSpelled}
use Rattle.filter_codec.proofs.tree.Packed.slot_at.Goals as goal

pub rank-requires : goal.rank-requires
rank-requires g c =
    let p = c.self.inside in
    let s : AreSparse p.labels.items p.children p.louds c.args.self.now.sparse = subst (AreSparse p.labels.items p.children p.louds) (ap (λ (t : Tree). t.sparse) c.self.view_is) c.self.invariant.1 in
    omega (arith, c.requires, children_count s)

pub overflow_sub-result : goal.overflow_sub-result
overflow_sub-result g c =
    let p = c.self.inside in
    let s : AreSparse p.labels.items p.children p.louds c.args.self.now.sparse = subst (AreSparse p.labels.items p.children p.louds) (ap (λ (t : Tree). t.sparse) c.self.view_is) c.self.invariant.1 in
    omega (arith, leaves_to s c.args.place c.rank.result c.requires c.rank.ensures)

pub overflow_add-result : goal.overflow_add-result
overflow_add-result g c =
    let p = c.self.inside in
    let s : AreSparse p.labels.items p.children p.louds c.args.self.now.sparse = subst (AreSparse p.labels.items p.children p.louds) (ap (λ (t : Tree). t.sparse) c.self.view_is) c.self.invariant.1 in
    omega (arith, c.leaves_before-before.ensures.few, c.requires, labels_count s, s.short)

pub returns : goal.returns
returns g c =
    let p = c.self.inside in
    let d : IsSpelled p.dense_labels p.dense_children p.dense_ends c.args.self.now.dense = subst (IsSpelled p.dense_labels p.dense_children p.dense_ends) (ap (λ (t : Tree). t.dense) c.self.view_is) c.self.invariant.0 in
    let s : AreSparse p.labels.items p.children p.louds c.args.self.now.sparse = subst (AreSparse p.labels.items p.children p.louds) (ap (λ (t : Tree). t.sparse) c.self.view_is) c.self.invariant.1 in
    let base : c.leaves_before-before.result ≡ leaf_count_of c.args.self.now.dense = c.leaves_before-before.ensures.count ∙ ap leaf_count_of (take_all c.len.result c.args.self.now.dense (omega (arith, c.len.ensures, ap length c.bits.ensures, ends_count d))) in
    omega (arith, base, leaves_to s c.args.place c.rank.result c.requires c.rank.ensures)
