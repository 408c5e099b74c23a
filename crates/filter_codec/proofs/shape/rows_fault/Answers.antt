use Rattle.std.proofs.Common.{◌≡◌, ◌+◌, ◌*◌, ◌∙◌, ap, arith, drop, sym}
use Rattle.filter_codec.proofs.Shapes.{ended, passed, stopped}
use Rattle.filter_image_model.specs.Reading.{nodes_fault}
use Rattle.filter_codec.proofs.shape.rows_fault.Goals as goal

pub is_wrong_row-requires : goal.is_wrong_row-requires
is_wrong_row-requires g c = omega (arith, c.dense_count-node-end.ensures.count)

pub overflow_mul-node : goal.overflow_mul-node
overflow_mul-node g c = omega (arith, c.dense_count-node-end.ensures.few)

pub overflow_add-node : goal.overflow_add-node
overflow_add-node g c = omega (arith, c.dense_count-node-end.ensures.few)

pub returns-then-is_wrong_row : goal.returns-then-is_wrong_row
returns-then-is_wrong_row g c =
    let v = c.loop-node.node in
    c.fault.ensures
    ∙ sym (c.loop-node.invariant
    ∙ stopped (λ n. 32) c.args.leaves c.args.packed.now.dense (40 + 32 * v) v (omega (arith, c.dense_count-node-end.ensures.count)) (sym c.is_wrong_row.ensures ∙ c.if-is_wrong_row.true))

pub loop-node-preserved : goal.loop-node-preserved
loop-node-preserved g c =
    let v = c.loop-node.node in
    let next : 40 + 32 * v + 32 ≡ 40 + 32 * (v + 1) = omega arith in
    c.loop-node.invariant
    ∙ passed (λ n. 32) c.args.leaves c.args.packed.now.dense (40 + 32 * v) v (omega (arith, c.dense_count-node-end.ensures.count)) (sym c.is_wrong_row.ensures ∙ c.if-is_wrong_row.false)
    ∙ ap (λ p. nodes_fault (λ n. 32) c.args.leaves p (drop (v + 1) c.args.packed.now.dense)) next

pub returns : goal.returns
returns g c =
    let v = c.loop-node.node in
    sym (c.loop-node.invariant ∙ ended (λ n. 32) c.args.leaves c.args.packed.now.dense (40 + 32 * v) v (omega (arith, c.dense_count-node-end.ensures.count)))
