use Rattle.std.proofs.Common.{◌++◌, ◌∙◌, ℕ, length, ap, arith, sym}
use Rattle.std.specs.Prelude.{zip}
use Rattle.map_file_model.specs.Maps.{Bytes}
use Rattle.map_writer.specs.Bodies.{IsCause}
use Rattle.map_writer.proofs.Bodies.{is_body}
use Rattle.map_writer.proofs.Slots.{are_ordered, by_plan, listed, memory_alone, not_zero, some_pairs}
use Rattle.trie_build.proofs.Whole.{tall_nodes}
use Rattle.whole_keys.specs.Whole.{whole_leaves}
use Rattle.map_writer.proofs.writing.write_body.Goals as goal

pub of-requires : goal.of-requires
of-requires c = listed c.args.keys.now c.args.values.now c.requires (not_zero (length c.args.keys.now) c.if-is_empty.ensures)

pub returns-in_err-plan-clause-cause : goal.returns-in_err-plan-clause-cause
returns-in_err-plan-clause-cause c = memory_alone c.from_residual.result (IsCause c.args.ratio (zip c.args.keys.now c.args.values.now)) c.from_residual.ensures.1 (some_pairs c.args.keys.now c.args.values.now c.requires (not_zero (length c.args.keys.now) c.if-is_empty.ensures))

pub returns-in_err-order-clause-cause : goal.returns-in_err-order-clause-cause
returns-in_err-order-clause-cause c = memory_alone c.from_residual-in_err-order.result (IsCause c.args.ratio (zip c.args.keys.now c.args.values.now)) c.from_residual-in_err-order.ensures.1 (some_pairs c.args.keys.now c.args.values.now c.requires (not_zero (length c.args.keys.now) c.if-is_empty.ensures))

pub body_bytes-bytes-requires-clause-order : goal.body_bytes-bytes-requires-clause-order
body_bytes-bytes-requires-clause-order c =
    are_ordered c.args.keys.now c.args.values.now (listed c.args.keys.now c.args.values.now c.requires (not_zero (length c.args.keys.now) c.if-is_empty.ensures)) c.requires c.as_slice.result.now c.height.result c.as_slice-2.result.now (c.as_slice.ensures.value ∙ c.in_ok-plan.ensures.plan.planned.spans_are)
    (omega (arith, c.height.ensures.nodes, tall_nodes (whole_leaves c.args.keys.now) c.in_ok-plan.plan.levels.nodes c.in_ok-plan.ensures.plan.planned.nodes_are)) (c.as_slice-2.ensures.value ∙ c.in_ok-order.ensures)

pub returns-then-bytes-gt-MAX_BODY_BYTES-clause-cause : goal.returns-then-bytes-gt-MAX_BODY_BYTES-clause-cause
returns-then-bytes-gt-MAX_BODY_BYTES-clause-cause c =
    (ap (length {A = ℕ}) (sym (by_plan c.args.keys.now c.args.values.now (listed c.args.keys.now c.args.values.now c.requires (not_zero (length c.args.keys.now) c.if-is_empty.ensures)) c.requires c.args.ratio c.in_ok-plan.plan.cutoff c.in_ok-plan.ensures.cutoff)) ∙ sym c.body_bytes-bytes.ensures, c.if-bytes-gt-MAX_BODY_BYTES.true)

pub push_body-requires-clause-order : goal.push_body-requires-clause-order
push_body-requires-clause-order c =
    are_ordered c.args.keys.now c.args.values.now (listed c.args.keys.now c.args.values.now c.requires (not_zero (length c.args.keys.now) c.if-is_empty.ensures)) c.requires c.as_slice.result.now c.height.result c.as_slice-3.result.now (c.as_slice.ensures.value ∙ c.in_ok-plan.ensures.plan.planned.spans_are)
    (omega (arith, c.height.ensures.nodes, tall_nodes (whole_leaves c.args.keys.now) c.in_ok-plan.plan.levels.nodes c.in_ok-plan.ensures.plan.planned.nodes_are)) (c.as_slice-3.ensures.value ∙ c.in_ok-order.ensures)

pub returns-in-Ok-clause-added : goal.returns-in-Ok-clause-added
returns-in-Ok-clause-added c =
    c.in-Ok.ensures.added ∙ ap (λ (l : Bytes). c.args.out.now.items ++ l) (by_plan c.args.keys.now c.args.values.now (listed c.args.keys.now c.args.values.now c.requires (not_zero (length c.args.keys.now) c.if-is_empty.ensures)) c.requires c.args.ratio c.in_ok-plan.plan.cutoff c.in_ok-plan.ensures.cutoff)

pub returns-in-Ok-clause-body : goal.returns-in-Ok-clause-body
returns-in-Ok-clause-body c = is_body c.args.ratio c.args.keys.now c.args.values.now c.requires (not_zero (length c.args.keys.now) c.if-is_empty.ensures)

pub returns-in-Ok-clause-not_large : goal.returns-in-Ok-clause-not_large
returns-in-Ok-clause-not_large c =
    omega (arith, ap (length {A = ℕ}) (by_plan c.args.keys.now c.args.values.now (listed c.args.keys.now c.args.values.now c.requires (not_zero (length c.args.keys.now) c.if-is_empty.ensures)) c.requires c.args.ratio c.in_ok-plan.plan.cutoff c.in_ok-plan.ensures.cutoff), c.body_bytes-bytes.ensures, c.if-bytes-gt-MAX_BODY_BYTES.false)

pub returns-clause-cause : goal.returns-clause-cause
returns-clause-cause c = (some_pairs c.args.keys.now c.args.values.now c.requires (not_zero (length c.args.keys.now) c.if-is_empty.ensures))
