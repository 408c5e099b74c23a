use Rattle.std.proofs.Common.{◌∙◌, ap, arith, subst, Bool}
use Rattle.std.specs.Prelude.{count_by}
use Rattle.filter_codec.proofs.Trees.{few_sparse, openings}
use Rattle.filter_codec.specs.Tree.{AreSparse, Tree}
use Rattle.filter_codec.proofs.tree.Packed.sparse_count.Goals as goal

pub returns-clause-count : goal.returns-clause-count
returns-clause-count g c =
    let p = c.self.inside in
    let s : AreSparse p.labels.items p.children p.louds c.args.self.now.sparse = subst (AreSparse p.labels.items p.children p.louds) (ap (λ (t : Tree). t.sparse) c.self.view_is) c.self.invariant.1 in
    c.set_bits.ensures ∙ ap (count_by (λ (b : Bool). b)) c.bits.ensures ∙ openings s

pub returns-clause-few : goal.returns-clause-few
returns-clause-few g c =
    let p = c.self.inside in
    let s : AreSparse p.labels.items p.children p.louds c.args.self.now.sparse = subst (AreSparse p.labels.items p.children p.louds) (ap (λ (t : Tree). t.sparse) c.self.view_is) c.self.invariant.1 in
    omega (arith, c.set_bits.ensures ∙ ap (count_by (λ (b : Bool). b)) c.bits.ensures ∙ openings s, few_sparse s)
