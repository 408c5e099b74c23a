use Rattle.std.proofs.Common.{◌≡◌, ◌<◌, ◌∙◌, ap, arith, get_or, length, subst, sym, Bool, List, false, true}
use Rattle.filter_codec.proofs.Endings.{end_found, end_passed, end_within, no_end_passed}
use Rattle.filter_codec.proofs.Trees.{ends_count}
use Rattle.filter_codec.specs.Tree.{Tree}
use Rattle.filter_model.specs.Image.{has_letter}
use Rattle.filter_model.specs.Trie.{END}
use Rattle.louds_dense.proofs.Spelled.{end_bit}
use Rattle.louds_dense.specs.Places.{node_at}
use Rattle.louds_dense.specs.Spelling.{IsSpelled}
use Rattle.suffix_bits.specs.Slots.{Suffix}
use Rattle.filter_codec.proofs.tree.Packed.wrong_dense_slot.Goals as goal
use Rattle.filter_codec.proofs.tree.Packed.wrong_dense_slot.Goals.{then-get+else-get-ne0, else-get}

pub get-requires-then-get : goal.get-requires-then-get
get-requires-then-get g c =
    let p = c.self.inside in
    let ds = c.args.self.now.dense in
    let v = c.loop-node.node in
    let d : IsSpelled p.dense_labels p.dense_children p.dense_ends ds = subst (IsSpelled p.dense_labels p.dense_children p.dense_ends) (ap (λ (t : Tree). t.dense) c.self.view_is) c.self.invariant.0 in
    let l : v < length ds = omega (arith, c.loop-node-test.true, c.len-node-end.ensures, ap length c.bits-ends.ensures, ends_count d) in
    let end : has_letter (node_at ds v) END ≡ true = sym (c.get.ensures ∙ ap (λ (bits : List Bool). get_or bits v false) c.bits-ends.ensures ∙ end_bit d v l) ∙ c.if-get.true in
    omega (arith, c.leaves_before-slot.ensures.count, end_within ds v d.nodes l end, c.requires)

pub returns-then-get-ne0 : goal.returns-then-get-ne0
returns-then-get-ne0 g c =
    let p = c.self.inside in
    let ds = c.args.self.now.dense in
    let v = c.loop-node.node in
    let d : IsSpelled p.dense_labels p.dense_children p.dense_ends ds = subst (IsSpelled p.dense_labels p.dense_children p.dense_ends) (ap (λ (t : Tree). t.dense) c.self.view_is) c.self.invariant.0 in
    let l : v < length ds = omega (arith, c.loop-node-test.true, c.len-node-end.ensures, ap length c.bits-ends.ensures, ends_count d) in
    let end : has_letter (node_at ds v) END ≡ true = sym (c.get.ensures ∙ ap (λ (bits : List Bool). get_or bits v false) c.bits-ends.ensures ∙ end_bit d v l) ∙ c.if-get.true in
    end_found c.args.suffixes.now ds v c.leaves_before-slot.result d.nodes l c.loop-node.invariant c.leaves_before-slot.ensures.count end
    (λ e. c.if-get-ne0.true (ap (λ (s : Suffix). s.1) c.get-then-get.ensures.suffix ∙ e))

pub loop-node-preserved : goal.loop-node-preserved
loop-node-preserved g c =
    let p = c.self.inside in
    let ds = c.args.self.now.dense in
    let v = c.loop-node.node in
    let d : IsSpelled p.dense_labels p.dense_children p.dense_ends ds = subst (IsSpelled p.dense_labels p.dense_children p.dense_ends) (ap (λ (t : Tree). t.dense) c.self.view_is) c.self.invariant.0 in
    let l : v < length ds = omega (arith, c.loop-node-test.true, c.len-node-end.ensures, ap length c.bits-ends.ensures, ends_count d) in
    elim c.if-get.branch [
      | then-get+else-get-ne0 w ↦
          end_passed c.args.suffixes.now ds v w.leaves_before-slot.result d.nodes l c.loop-node.invariant w.leaves_before-slot.ensures.count
          (sym (ap (λ (s : Suffix). s.1) w.get-then-get.ensures.suffix) ∙ w.if-get-ne0.false)
      | else-get w ↦
          no_end_passed c.args.suffixes.now ds v d.nodes l c.loop-node.invariant
          (sym (c.get.ensures ∙ ap (λ (bits : List Bool). get_or bits v false) c.bits-ends.ensures ∙ end_bit d v l) ∙ w.if-get.false)
    ]
