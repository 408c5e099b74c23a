use Rattle.std.proofs.Common.{◌≡◌, ◌∙◌, ap, arith, get_or, length, subst, sym, Bool, List, [], ◌∷◌, false, nat_lt}
use Rattle.std.specs.Prelude.{◌==◌, ◌&&◌, ◌||◌}
use Rattle.std.proofs.lemmas.Bool.{eq-eqb, ne_eqb}
use Rattle.filter_codec.proofs.Shapes.{end_at, node_dense, not_one, one_is}
use Rattle.filter_codec.proofs.Trees.{ends_count}
use Rattle.filter_codec.specs.Tree.{Tree}
use Rattle.filter_image_model.specs.Levels.{children_of}
use Rattle.filter_model.specs.Image.{has_letter}
use Rattle.filter_model.specs.Trie.{END}
use Rattle.louds_dense.specs.Spelling.{IsSpelled}
use Rattle.filter_codec.proofs.shape.is_wrong_row.Goals as goal

pub returns-then-branches-ne1 : goal.returns-then-branches-ne1
returns-then-branches-ne1 g c =
    let p = c.packed.inside in
    let d : IsSpelled p.dense_labels p.dense_children p.dense_ends c.args.packed.now.dense = subst (IsSpelled p.dense_labels p.dense_children p.dense_ends) (ap (λ (t : Tree). t.dense) c.packed.view_is) c.packed.invariant.0 in
    let n = get_or c.args.packed.now.dense c.args.node [] in
    let w = node_dense d c.args.node c.requires in
    not_one c.args.leaves n c.row_counts-branches.result.0 w c.row_counts-branches.ensures.branches c.if-branches-ne1.true

pub get-requires : goal.get-requires
get-requires g c =
    let p = c.packed.inside in
    let d : IsSpelled p.dense_labels p.dense_children p.dense_ends c.args.packed.now.dense = subst (IsSpelled p.dense_labels p.dense_children p.dense_ends) (ap (λ (t : Tree). t.dense) c.packed.view_is) c.packed.invariant.0 in
    omega (arith, ap length c.bits-ends.ensures, ends_count d, c.requires)

pub returns-then-get : goal.returns-then-get
returns-then-get g c =
    let p = c.packed.inside in
    let d : IsSpelled p.dense_labels p.dense_children p.dense_ends c.args.packed.now.dense = subst (IsSpelled p.dense_labels p.dense_children p.dense_ends) (ap (λ (t : Tree). t.dense) c.packed.view_is) c.packed.invariant.0 in
    let n = get_or c.args.packed.now.dense c.args.node [] in
    let w = node_dense d c.args.node c.requires in
    let end : c.get.result ≡ has_letter n END = c.get.ensures ∙ ap (λ (bits : List Bool). get_or bits c.args.node false) c.bits-ends.ensures ∙ end_at d c.args.node c.requires in
    let one : length n ≡ 1 = sym c.row_counts-branches.ensures.branches ∙ c.if-branches-ne1.false in
    c.if-get.true ∙ (λ j. sym (sym end ∙ c.if-get.true) j || ((children_of (n ∷ []) == 0) && nat_lt 1 c.args.leaves)) ∙ one_is c.args.leaves n w one

pub returns-then-children-eq0 : goal.returns-then-children-eq0
returns-then-children-eq0 g c =
    let p = c.packed.inside in
    let d : IsSpelled p.dense_labels p.dense_children p.dense_ends c.args.packed.now.dense = subst (IsSpelled p.dense_labels p.dense_children p.dense_ends) (ap (λ (t : Tree). t.dense) c.packed.view_is) c.packed.invariant.0 in
    let n = get_or c.args.packed.now.dense c.args.node [] in
    let w = node_dense d c.args.node c.requires in
    let end : c.get.result ≡ has_letter n END = c.get.ensures ∙ ap (λ (bits : List Bool). get_or bits c.args.node false) c.bits-ends.ensures ∙ end_at d c.args.node c.requires in
    let one : length n ≡ 1 = sym c.row_counts-branches.ensures.branches ∙ c.if-branches-ne1.false in
    (λ j. sym (sym end ∙ c.if-get.false) j || (sym (eq-eqb (children_of (n ∷ [])) 0 (sym c.row_counts-branches.ensures.children ∙ c.if-children-eq0.true)) j && nat_lt 1 c.args.leaves)) ∙ one_is c.args.leaves n w one

pub returns-else-children-eq0 : goal.returns-else-children-eq0
returns-else-children-eq0 g c =
    let p = c.packed.inside in
    let d : IsSpelled p.dense_labels p.dense_children p.dense_ends c.args.packed.now.dense = subst (IsSpelled p.dense_labels p.dense_children p.dense_ends) (ap (λ (t : Tree). t.dense) c.packed.view_is) c.packed.invariant.0 in
    let n = get_or c.args.packed.now.dense c.args.node [] in
    let w = node_dense d c.args.node c.requires in
    let end : c.get.result ≡ has_letter n END = c.get.ensures ∙ ap (λ (bits : List Bool). get_or bits c.args.node false) c.bits-ends.ensures ∙ end_at d c.args.node c.requires in
    let one : length n ≡ 1 = sym c.row_counts-branches.ensures.branches ∙ c.if-branches-ne1.false in
    ne_eqb c.row_counts-branches.result.1 0 c.if-children-eq0.false
    ∙ (λ j. sym (sym end ∙ c.if-get.false) j || (sym (ne_eqb (children_of (n ∷ [])) 0 (λ z. c.if-children-eq0.false (c.row_counts-branches.ensures.children ∙ z))) j && nat_lt 1 c.args.leaves)) ∙ one_is c.args.leaves n w one
