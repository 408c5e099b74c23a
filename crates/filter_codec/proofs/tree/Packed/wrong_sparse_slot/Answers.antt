use Rattle.std.proofs.Common.{◌≡◌, ◌<◌, ◌∙◌, ap, arith, get_or, length, subst, sym, Bool, List, false, true}
use Rattle.filter_codec.proofs.Endings.{child_at, child_passed, leaf_within, mark_found, mark_passed, no_mark_passed}
use Rattle.filter_codec.proofs.Trees.{labels_count}
use Rattle.filter_codec.specs.Tree.{AreSparse, Tree}
use Rattle.filter_image_model.specs.Levels.{leaf_count_of}
use Rattle.filter_model.specs.Nodes.{all, at}
use Rattle.suffix_bits.specs.Slots.{Suffix}
use Rattle.filter_codec.proofs.tree.Packed.wrong_sparse_slot.Goals as goal
use Rattle.filter_codec.proofs.tree.Packed.wrong_sparse_slot.Goals.{then-is_end+then-not-get+else-get-ne0, else-is_end, else-is_end-via-then-is_end+else-not-get, else-is_end-via-else-is_end}

pub get-requires-then-not-get : goal.get-requires-then-not-get
get-requires-then-not-get g c =
    let p = c.self.inside in
    let ds = c.args.self.now.dense in
    let ss = c.args.self.now.sparse in
    let i = c.loop-place.place in
    let s : AreSparse p.labels.items p.children p.louds ss = subst (AreSparse p.labels.items p.children p.louds) (ap (λ (t : Tree). t.sparse) c.self.view_is) c.self.invariant.1 in
    let l : i < length (all ss) = omega (arith, c.loop-place-test.true, c.len-place-end.ensures, c.self.inside.labels.ok.0, labels_count s) in
    let leaf : (at ss i).1 ≡ false = sym (c.get.ensures ∙ ap (λ (bits : List Bool). get_or bits i false) c.bits.ensures ∙ child_at s i l) ∙ c.if-not-get.true in
    omega (arith, c.slot_at-slot.ensures, leaf_within ds ss i l leaf, c.requires)

pub returns-then-get-ne0 : goal.returns-then-get-ne0
returns-then-get-ne0 g c =
    let p = c.self.inside in
    let ds = c.args.self.now.dense in
    let ss = c.args.self.now.sparse in
    let i = c.loop-place.place in
    let s : AreSparse p.labels.items p.children p.louds ss = subst (AreSparse p.labels.items p.children p.louds) (ap (λ (t : Tree). t.sparse) c.self.view_is) c.self.invariant.1 in
    let l : i < length (all ss) = omega (arith, c.loop-place-test.true, c.len-place-end.ensures, c.self.inside.labels.ok.0, labels_count s) in
    let leaf : (at ss i).1 ≡ false = sym (c.get.ensures ∙ ap (λ (bits : List Bool). get_or bits i false) c.bits.ensures ∙ child_at s i l) ∙ c.if-not-get.true in
    mark_found c.args.suffixes.now (leaf_count_of ds) i c.slot_at-slot.result (all ss) l c.loop-place.invariant c.slot_at-slot.ensures leaf (sym c.is_end.ensures ∙ c.if-is_end.true)
    (λ e. c.if-get-ne0.true (ap (λ (s : Suffix). s.1) c.get-then-not-get.ensures.suffix ∙ e))

pub loop-place-preserved : goal.loop-place-preserved
loop-place-preserved g c =
    let p = c.self.inside in
    let ds = c.args.self.now.dense in
    let ss = c.args.self.now.sparse in
    let i = c.loop-place.place in
    let s : AreSparse p.labels.items p.children p.louds ss = subst (AreSparse p.labels.items p.children p.louds) (ap (λ (t : Tree). t.sparse) c.self.view_is) c.self.invariant.1 in
    let l : i < length (all ss) = omega (arith, c.loop-place-test.true, c.len-place-end.ensures, c.self.inside.labels.ok.0, labels_count s) in
    elim c.if-is_end.branch [
      | then-is_end+then-not-get+else-get-ne0 w ↦
          let leaf : (at ss i).1 ≡ false = sym (w.get.ensures ∙ ap (λ (bits : List Bool). get_or bits i false) w.bits.ensures ∙ child_at s i l) ∙ w.if-not-get.true in
          mark_passed c.args.suffixes.now (leaf_count_of ds) i w.slot_at-slot.result (all ss) l c.loop-place.invariant w.slot_at-slot.ensures leaf (sym c.is_end.ensures ∙ w.if-is_end.true)
          (sym (ap (λ (s : Suffix). s.1) w.get-then-not-get.ensures.suffix) ∙ w.if-get-ne0.false)
      | else-is_end w ↦ elim w.else-is_end.branch [
        | else-is_end-via-then-is_end+else-not-get u ↦
            let child : (at ss i).1 ≡ true = sym (u.get.ensures ∙ ap (λ (bits : List Bool). get_or bits i false) u.bits.ensures ∙ child_at s i l) ∙ u.if-not-get.false in
            child_passed c.args.suffixes.now (leaf_count_of ds) i (all ss) l c.loop-place.invariant child
        | else-is_end-via-else-is_end u ↦
            no_mark_passed c.args.suffixes.now (leaf_count_of ds) i (all ss) l c.loop-place.invariant (sym c.is_end.ensures ∙ u.if-is_end.false)
      ]
    ]
