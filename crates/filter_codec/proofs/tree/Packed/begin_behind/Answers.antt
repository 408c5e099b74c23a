use Rattle.std.proofs.Common.{◌∙◌, ap, arith, subst}
use Rattle.filter_codec.proofs.Openings.{next_end, next_found}
use Rattle.filter_codec.proofs.Trees.{labels_count}
use Rattle.filter_codec.specs.Tree.{AreSparse, Tree}
use Rattle.filter_codec.proofs.tree.Packed.begin_behind.Goals as goal

pub overflow_add-start : goal.overflow_add-start
overflow_add-start g c =
    let p = c.self.inside in
    let s : AreSparse p.labels.items p.children p.louds c.args.self.now.sparse = subst (AreSparse p.labels.items p.children p.louds) (ap (λ (t : Tree). t.sparse) c.self.view_is) c.self.invariant.1 in
    omega (arith, c.requires, labels_count s, s.short)

pub returns-in-Some : goal.returns-in-Some
returns-in-Some g c =
    let p = c.self.inside in
    let s : AreSparse p.labels.items p.children p.louds c.args.self.now.sparse = subst (AreSparse p.labels.items p.children p.louds) (ap (λ (t : Tree). t.sparse) c.self.view_is) c.self.invariant.1 in
    λ v lt e. next_found s v lt c.in-Some.place (rw (c.bits.ensures, e) at c.in-Some.ensures)

pub returns-in-None : goal.returns-in-None
returns-in-None g c =
    let p = c.self.inside in
    let s : AreSparse p.labels.items p.children p.louds c.args.self.now.sparse = subst (AreSparse p.labels.items p.children p.louds) (ap (λ (t : Tree). t.sparse) c.self.view_is) c.self.invariant.1 in
    λ v lt e. c.len.ensures ∙ c.self.inside.labels.ok.0 ∙ next_end s v lt (rw (c.bits.ensures, e) at c.in-None.ensures)
