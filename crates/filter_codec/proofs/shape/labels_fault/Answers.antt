use Rattle.std.proofs.Common.{◌≡◌, ◌+◌, ◌*◌, ◌<◌, ◌∙◌, [], ap, arith, drop, get_or, length, rules, subst, sym}
use Rattle.std.specs.Prelude.{Some}
use Rattle.std.specs.Int.{div_ceil}
use Rattle.byte_fields.specs.Faults.{fault}
use Rattle.filter_codec.proofs.Openings.{begin_within}
use Rattle.filter_codec.proofs.Shapes.{children_within, ended, judged, next_place, part_order, part_some, part_within, passed, stopped}
use Rattle.filter_codec.specs.Rules.{labels_place}
use Rattle.filter_codec.specs.Tree.{AreSparse, Tree}
use Rattle.filter_image_model.specs.Reading.{nodes_fault}
use Rattle.filter_codec.proofs.shape.labels_fault.Goals as goal

pub overflow_mul-place : goal.overflow_mul-place
overflow_mul-place g c = omega (arith, c.dense_count-dense.ensures.few)

pub overflow_add-place : goal.overflow_add-place
overflow_add-place g c = omega (arith, c.dense_count-dense.ensures.few)

pub overflow_add-place-2 : goal.overflow_add-place-2
overflow_add-place-2 g c = omega (arith, c.dense_count-dense.ensures.few, c.div_ceil.ensures)

pub begin_behind-end-requires : goal.begin_behind-end-requires
begin_behind-end-requires g c =
    let p = c.packed.inside in
    let s : AreSparse p.labels.items p.children p.louds c.args.packed.now.sparse = subst (AreSparse p.labels.items p.children p.louds) (ap (λ (t : Tree). t.sparse) c.packed.view_is) c.packed.invariant.1 in
    begin_within s c.loop-node.node c.loop-node.start (omega (arith, c.sparse_count-node-end.ensures.count)) c.loop-node.invariant.0

pub get-leads_on-requires : goal.get-leads_on-requires
get-leads_on-requires g c =
    let p = c.packed.inside in
    let s : AreSparse p.labels.items p.children p.louds c.args.packed.now.sparse = subst (AreSparse p.labels.items p.children p.louds) (ap (λ (t : Tree). t.sparse) c.packed.view_is) c.packed.invariant.1 in
    let v = c.loop-node.node in
    let lt : v < length c.args.packed.now.sparse = omega (arith, c.sparse_count-node-end.ensures.count) in
    omega (arith, children_within s v c.loop-node.start c.begin_behind-end.result c.as_slice-labels.result.now lt c.loop-node.invariant.0 (c.begin_behind-end.ensures v lt c.loop-node.invariant.0) c.as_slice-labels.ensures.value, ap length c.bits-children.ensures)

pub slice_bounds-is_wrong_node-count : goal.slice_bounds-is_wrong_node-count
slice_bounds-is_wrong_node-count g c =
    let p = c.packed.inside in
    let s : AreSparse p.labels.items p.children p.louds c.args.packed.now.sparse = subst (AreSparse p.labels.items p.children p.louds) (ap (λ (t : Tree). t.sparse) c.packed.view_is) c.packed.invariant.1 in
    let v = c.loop-node.node in
    let lt : v < length c.args.packed.now.sparse = omega (arith, c.sparse_count-node-end.ensures.count) in
    omega (arith, part_order s v c.loop-node.start c.begin_behind-end.result c.as_slice-labels.result.now lt c.loop-node.invariant.0 (c.begin_behind-end.ensures v lt c.loop-node.invariant.0) c.as_slice-labels.ensures.value)

pub slice_bounds-is_wrong_node-start : goal.slice_bounds-is_wrong_node-start
slice_bounds-is_wrong_node-start g c =
    let p = c.packed.inside in
    let s : AreSparse p.labels.items p.children p.louds c.args.packed.now.sparse = subst (AreSparse p.labels.items p.children p.louds) (ap (λ (t : Tree). t.sparse) c.packed.view_is) c.packed.invariant.1 in
    let v = c.loop-node.node in
    let lt : v < length c.args.packed.now.sparse = omega (arith, c.sparse_count-node-end.ensures.count) in
    let order = part_order s v c.loop-node.start c.begin_behind-end.result c.as_slice-labels.result.now lt c.loop-node.invariant.0 (c.begin_behind-end.ensures v lt c.loop-node.invariant.0) c.as_slice-labels.ensures.value in
    let within = part_within s v c.loop-node.start c.begin_behind-end.result c.as_slice-labels.result.now lt c.loop-node.invariant.0 (c.begin_behind-end.ensures v lt c.loop-node.invariant.0) c.as_slice-labels.ensures.value in
    search rules

pub slice_bounds-is_wrong_node-end : goal.slice_bounds-is_wrong_node-end
slice_bounds-is_wrong_node-end g c =
    let p = c.packed.inside in
    let s : AreSparse p.labels.items p.children p.louds c.args.packed.now.sparse = subst (AreSparse p.labels.items p.children p.louds) (ap (λ (t : Tree). t.sparse) c.packed.view_is) c.packed.invariant.1 in
    let v = c.loop-node.node in
    let lt : v < length c.args.packed.now.sparse = omega (arith, c.sparse_count-node-end.ensures.count) in
    let order = part_order s v c.loop-node.start c.begin_behind-end.result c.as_slice-labels.result.now lt c.loop-node.invariant.0 (c.begin_behind-end.ensures v lt c.loop-node.invariant.0) c.as_slice-labels.ensures.value in
    let within = part_within s v c.loop-node.start c.begin_behind-end.result c.as_slice-labels.result.now lt c.loop-node.invariant.0 (c.begin_behind-end.ensures v lt c.loop-node.invariant.0) c.as_slice-labels.ensures.value in
    search rules

pub is_wrong_node-requires : goal.is_wrong_node-requires
is_wrong_node-requires g c =
    let p = c.packed.inside in
    let s : AreSparse p.labels.items p.children p.louds c.args.packed.now.sparse = subst (AreSparse p.labels.items p.children p.louds) (ap (λ (t : Tree). t.sparse) c.packed.view_is) c.packed.invariant.1 in
    let v = c.loop-node.node in
    let lt : v < length c.args.packed.now.sparse = omega (arith, c.sparse_count-node-end.ensures.count) in
    part_some s v c.loop-node.start c.begin_behind-end.result c.as_slice-labels.result.now lt c.loop-node.invariant.0 (c.begin_behind-end.ensures v lt c.loop-node.invariant.0) c.as_slice-labels.ensures.value

pub overflow_add-place-then-is_wrong_node : goal.overflow_add-place-then-is_wrong_node
overflow_add-place-then-is_wrong_node g c =
    let p = c.packed.inside in
    let s : AreSparse p.labels.items p.children p.louds c.args.packed.now.sparse = subst (AreSparse p.labels.items p.children p.louds) (ap (λ (t : Tree). t.sparse) c.packed.view_is) c.packed.invariant.1 in
    let v = c.loop-node.node in
    let lt : v < length c.args.packed.now.sparse = omega (arith, c.sparse_count-node-end.ensures.count) in
    omega (arith, c.dense_count-dense.ensures.few, c.div_ceil.ensures, part_order s v c.loop-node.start c.begin_behind-end.result c.as_slice-labels.result.now lt c.loop-node.invariant.0 (c.begin_behind-end.ensures v lt c.loop-node.invariant.0) c.as_slice-labels.ensures.value, part_within s v c.loop-node.start c.begin_behind-end.result c.as_slice-labels.result.now lt c.loop-node.invariant.0 (c.begin_behind-end.ensures v lt c.loop-node.invariant.0) c.as_slice-labels.ensures.value, ap length c.as_slice-labels.ensures.value, s.short)

pub returns-then-is_wrong_node : goal.returns-then-is_wrong_node
returns-then-is_wrong_node g c =
    let p = c.packed.inside in
    let s : AreSparse p.labels.items p.children p.louds c.args.packed.now.sparse = subst (AreSparse p.labels.items p.children p.louds) (ap (λ (t : Tree). t.sparse) c.packed.view_is) c.packed.invariant.1 in
    let v = c.loop-node.node in
    let lt : v < length c.args.packed.now.sparse = omega (arith, c.sparse_count-node-end.ensures.count) in
    let P = labels_place (length c.args.packed.now.dense) in
    let count = c.dense_count-dense.ensures.count in
    let place : 40 + 64 * c.dense_count-dense.result + c.div_ceil.result ≡ P = (λ j. 40 + 64 * count j + (c.div_ceil.ensures ∙ ap (λ n. div_ceil n 8) count) j) in
    let wrong = sym (judged s v c.loop-node.start c.begin_behind-end.result c.as_slice-labels.result.now lt c.loop-node.invariant.0 (c.begin_behind-end.ensures v lt c.loop-node.invariant.0) c.as_slice-labels.ensures.value c.args.leaves c.get-leads_on.result c.bits-children.result.now c.bits-children.ensures c.get-leads_on.ensures) ∙ sym c.is_wrong_node.ensures ∙ c.if-is_wrong_node.true in
    c.fault.ensures ∙ ap (λ n. Some (fault (n + c.loop-node.start) 9)) place
    ∙ sym (c.loop-node.invariant.1 ∙ stopped length c.args.leaves c.args.packed.now.sparse (P + c.loop-node.start) v lt wrong)

pub loop-node-preserved : goal.loop-node-preserved
loop-node-preserved g c =
    let p = c.packed.inside in
    let s : AreSparse p.labels.items p.children p.louds c.args.packed.now.sparse = subst (AreSparse p.labels.items p.children p.louds) (ap (λ (t : Tree). t.sparse) c.packed.view_is) c.packed.invariant.1 in
    let v = c.loop-node.node in
    let lt : v < length c.args.packed.now.sparse = omega (arith, c.sparse_count-node-end.ensures.count) in
    let P = labels_place (length c.args.packed.now.dense) in
    let right = sym (judged s v c.loop-node.start c.begin_behind-end.result c.as_slice-labels.result.now lt c.loop-node.invariant.0 (c.begin_behind-end.ensures v lt c.loop-node.invariant.0) c.as_slice-labels.ensures.value c.args.leaves c.get-leads_on.result c.bits-children.result.now c.bits-children.ensures c.get-leads_on.ensures) ∙ sym c.is_wrong_node.ensures ∙ c.if-is_wrong_node.false in
    let size = next_place c.args.packed.now.sparse v lt in
    let next : P + c.loop-node.start + length (get_or c.args.packed.now.sparse v []) ≡ P + c.begin_behind-end.result = omega (arith, size, c.loop-node.invariant.0, (c.begin_behind-end.ensures v lt c.loop-node.invariant.0)) in (
      (c.begin_behind-end.ensures v lt c.loop-node.invariant.0),
      c.loop-node.invariant.1
          ∙ passed length c.args.leaves c.args.packed.now.sparse (P + c.loop-node.start) v lt right
          ∙ ap (λ p. nodes_fault length c.args.leaves p (drop (v + 1) c.args.packed.now.sparse)) next,
    )

pub returns : goal.returns
returns g c =
    let P = labels_place (length c.args.packed.now.dense) in
    sym (c.loop-node.invariant.1
    ∙ ended length c.args.leaves c.args.packed.now.sparse (P + c.loop-node.start) c.loop-node.node (omega (arith, c.sparse_count-node-end.ensures.count)))
