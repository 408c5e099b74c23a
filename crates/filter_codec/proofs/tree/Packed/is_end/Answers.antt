use Rattle.std.proofs.Common.{◌∙◌, ap, arith, length, subst}
use Rattle.filter_codec.proofs.Endings.{length-louds, mark}
use Rattle.filter_codec.specs.Ends.{is_mark}
use Rattle.filter_codec.specs.Tree.{AreSparse, Tree}
use Rattle.filter_codec.proofs.tree.Packed.is_end.Goals as goal

pub has_mark-requires-clause-opening : goal.has_mark-requires-clause-opening
has_mark-requires-clause-opening g c =
    let p = c.self.inside in
    let s : AreSparse p.labels.items p.children p.louds c.args.self.now.sparse = subst (AreSparse p.labels.items p.children p.louds) (ap (λ (t : Tree). t.sparse) c.self.view_is) c.self.invariant.1 in
    omega (arith, c.requires, ap length c.bits.ensures, ap length s.louds_are, length-louds c.args.self.now.sparse)

pub returns : goal.returns
returns g c =
    let p = c.self.inside in
    let s : AreSparse p.labels.items p.children p.louds c.args.self.now.sparse = subst (AreSparse p.labels.items p.children p.louds) (ap (λ (t : Tree). t.sparse) c.self.view_is) c.self.invariant.1 in
    c.has_mark.ensures
    ∙ (λ j. is_mark ((c.as_slice.ensures.value ∙ s.labels_are) j) ((c.bits.ensures ∙ s.louds_are) j) c.args.place)
    ∙ mark c.args.self.now.sparse c.args.place s.nodes c.requires
