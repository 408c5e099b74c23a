use Rattle.std.proofs.Common.{◌∙◌, ap, subst}
use Rattle.filter_codec.specs.Tree.{AreSparse, Tree}
use Rattle.filter_codec.proofs.Trees.{behind, found}
use Rattle.louds_dense.specs.Spelling.{IsSpelled}
use Rattle.filter_codec.proofs.tree.Packed.begin.Goals as goal

pub returns-in-Some : goal.returns-in-Some
returns-in-Some g c =
    let p = c.self.inside in
    let d : IsSpelled p.dense_labels p.dense_children p.dense_ends c.args.self.now.dense = subst (IsSpelled p.dense_labels p.dense_children p.dense_ends) (ap (λ (t : Tree). t.dense) c.self.view_is) c.self.invariant.0 in
    let s : AreSparse p.labels.items p.children p.louds c.args.self.now.sparse = subst (AreSparse p.labels.items p.children p.louds) (ap (λ (t : Tree). t.sparse) c.self.view_is) c.self.invariant.1 in
    found s c.args.number c.in-Some.place c.requires c.in-Some.ensures

pub returns-in-None : goal.returns-in-None
returns-in-None g c =
    let p = c.self.inside in
    let d : IsSpelled p.dense_labels p.dense_children p.dense_ends c.args.self.now.dense = subst (IsSpelled p.dense_labels p.dense_children p.dense_ends) (ap (λ (t : Tree). t.dense) c.self.view_is) c.self.invariant.0 in
    let s : AreSparse p.labels.items p.children p.louds c.args.self.now.sparse = subst (AreSparse p.labels.items p.children p.louds) (ap (λ (t : Tree). t.sparse) c.self.view_is) c.self.invariant.1 in
    c.len.ensures ∙ c.self.inside.labels.ok.0 ∙ behind s c.args.number c.requires c.in-None.ensures
