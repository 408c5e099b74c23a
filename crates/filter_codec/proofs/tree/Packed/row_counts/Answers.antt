use Rattle.std.proofs.Common.{◌≡◌, ◌+◌, ◌∙◌, ap, arith, subst, take}
use Rattle.filter_codec.proofs.Shapes.{branches_to, children_to, next_children, next_place}
use Rattle.filter_codec.proofs.Trees.{child_bits, ends_count, label_bits}
use Rattle.filter_codec.specs.Tree.{Tree}
use Rattle.filter_image_model.specs.Levels.{children_of}
use Rattle.filter_model.specs.Nodes.{first_place}
use Rattle.louds_dense.specs.Spelling.{IsSpelled}
use Rattle.filter_codec.proofs.tree.Packed.row_counts.Goals as goal

pub rank-requires : goal.rank-requires
rank-requires g c =
    let p = c.self.inside in
    let d : IsSpelled p.dense_labels p.dense_children p.dense_ends c.args.self.now.dense = subst (IsSpelled p.dense_labels p.dense_children p.dense_ends) (ap (λ (t : Tree). t.dense) c.self.view_is) c.self.invariant.0 in
    omega (arith, label_bits d, child_bits d, ends_count d, c.requires)

pub rank-requires-2 : goal.rank-requires-2
rank-requires-2 g c =
    let p = c.self.inside in
    let d : IsSpelled p.dense_labels p.dense_children p.dense_ends c.args.self.now.dense = subst (IsSpelled p.dense_labels p.dense_children p.dense_ends) (ap (λ (t : Tree). t.dense) c.self.view_is) c.self.invariant.0 in
    omega (arith, label_bits d, child_bits d, ends_count d, c.requires)

pub rank-requires-3 : goal.rank-requires-3
rank-requires-3 g c =
    let p = c.self.inside in
    let d : IsSpelled p.dense_labels p.dense_children p.dense_ends c.args.self.now.dense = subst (IsSpelled p.dense_labels p.dense_children p.dense_ends) (ap (λ (t : Tree). t.dense) c.self.view_is) c.self.invariant.0 in
    omega (arith, label_bits d, child_bits d, ends_count d, c.requires)

pub rank-requires-4 : goal.rank-requires-4
rank-requires-4 g c =
    let p = c.self.inside in
    let d : IsSpelled p.dense_labels p.dense_children p.dense_ends c.args.self.now.dense = subst (IsSpelled p.dense_labels p.dense_children p.dense_ends) (ap (λ (t : Tree). t.dense) c.self.view_is) c.self.invariant.0 in
    omega (arith, label_bits d, child_bits d, ends_count d, c.requires)

pub rank-requires-5 : goal.rank-requires-5
rank-requires-5 g c =
    let p = c.self.inside in
    let d : IsSpelled p.dense_labels p.dense_children p.dense_ends c.args.self.now.dense = subst (IsSpelled p.dense_labels p.dense_children p.dense_ends) (ap (λ (t : Tree). t.dense) c.self.view_is) c.self.invariant.0 in
    omega (arith, label_bits d, child_bits d, ends_count d, c.requires)

pub rank-below-requires : goal.rank-below-requires
rank-below-requires g c =
    let p = c.self.inside in
    let d : IsSpelled p.dense_labels p.dense_children p.dense_ends c.args.self.now.dense = subst (IsSpelled p.dense_labels p.dense_children p.dense_ends) (ap (λ (t : Tree). t.dense) c.self.view_is) c.self.invariant.0 in
    omega (arith, label_bits d, child_bits d, ends_count d, c.requires)

pub overflow_sub-children : goal.overflow_sub-children
overflow_sub-children g c =
    let p = c.self.inside in
    let d : IsSpelled p.dense_labels p.dense_children p.dense_ends c.args.self.now.dense = subst (IsSpelled p.dense_labels p.dense_children p.dense_ends) (ap (λ (t : Tree). t.dense) c.self.view_is) c.self.invariant.0 in
    let ds = c.args.self.now.dense in
    let v = c.args.node in
    let a : c.rank-below.result ≡ children_of (take v ds) = c.rank-below.ensures ∙ children_to d v (omega (arith, c.requires)) in
    let b : c.rank-5.result ≡ children_of (take (v + 1) ds) = c.rank-5.ensures ∙ children_to d (v + 1) (omega (arith, c.requires)) in
    omega (arith, a, b, next_children ds v c.requires)

pub overflow_sub-result : goal.overflow_sub-result
overflow_sub-result g c =
    let p = c.self.inside in
    let d : IsSpelled p.dense_labels p.dense_children p.dense_ends c.args.self.now.dense = subst (IsSpelled p.dense_labels p.dense_children p.dense_ends) (ap (λ (t : Tree). t.dense) c.self.view_is) c.self.invariant.0 in
    let ds = c.args.self.now.dense in
    let v = c.args.node in
    let a : c.rank.result + c.rank-2.result ≡ first_place ds v = (λ j. c.rank.ensures j + c.rank-2.ensures j) ∙ branches_to d v (omega (arith, c.requires)) in
    let b : c.rank-3.result + c.rank-4.result ≡ first_place ds (v + 1) = (λ j. c.rank-3.ensures j + c.rank-4.ensures j) ∙ branches_to d (v + 1) (omega (arith, c.requires)) in
    omega (arith, a, b, next_place ds v c.requires)

pub returns-clause-branches : goal.returns-clause-branches
returns-clause-branches g c =
    let p = c.self.inside in
    let d : IsSpelled p.dense_labels p.dense_children p.dense_ends c.args.self.now.dense = subst (IsSpelled p.dense_labels p.dense_children p.dense_ends) (ap (λ (t : Tree). t.dense) c.self.view_is) c.self.invariant.0 in
    let ds = c.args.self.now.dense in
    let v = c.args.node in
    let a : c.rank.result + c.rank-2.result ≡ first_place ds v = (λ j. c.rank.ensures j + c.rank-2.ensures j) ∙ branches_to d v (omega (arith, c.requires)) in
    let b : c.rank-3.result + c.rank-4.result ≡ first_place ds (v + 1) = (λ j. c.rank-3.ensures j + c.rank-4.ensures j) ∙ branches_to d (v + 1) (omega (arith, c.requires)) in
    omega (arith, a, b, next_place ds v c.requires)

pub returns-clause-children : goal.returns-clause-children
returns-clause-children g c =
    let p = c.self.inside in
    let d : IsSpelled p.dense_labels p.dense_children p.dense_ends c.args.self.now.dense = subst (IsSpelled p.dense_labels p.dense_children p.dense_ends) (ap (λ (t : Tree). t.dense) c.self.view_is) c.self.invariant.0 in
    let ds = c.args.self.now.dense in
    let v = c.args.node in
    let a : c.rank-below.result ≡ children_of (take v ds) = c.rank-below.ensures ∙ children_to d v (omega (arith, c.requires)) in
    let b : c.rank-5.result ≡ children_of (take (v + 1) ds) = c.rank-5.ensures ∙ children_to d (v + 1) (omega (arith, c.requires)) in
    omega (arith, a, b, next_children ds v c.requires)
