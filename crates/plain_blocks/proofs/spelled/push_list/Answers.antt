use Rattle.std.proofs.Common.{rules, arith, ap, ◌∙◌, ◌+◌, ◌++◌, List, ℕ}
use Rattle.plain_blocks.proofs.Loops.{list_done, list_is, list_step}
use Rattle.plain_blocks.proofs.spelled.push_list.Goals as goal

pub loop-i-preserved : goal.loop-i-preserved
loop-i-preserved c = (
  list_step c.loop-i.i (c.loop-i.i + 1) c.loop-i.place c.body_length-place.result c.wants_shared.result c.loop-i.before.now c.key-key.result.now c.args.block.now c.index-block-i.result c.index-block-i-in-loop-i.result
      c.loop-i.out.items c.push_place.new.out.items _ (omega arith) (search rules) c.index-block-i.is c.index-block-i-in-loop-i.is c.key-key.ensures c.wants_shared.ensures.shared c.body_length-place.ensures.length
      c.in_ok-push_place.ensures c.loop-i.invariant.0,
  omega (arith, c.loop-i.invariant.1, c.body_length-place.ensures.small),
)

pub returns : goal.returns
returns c =
    list_done c.loop-i.i c.loop-i.place c.loop-i.before.now c.args.block.now c.loop-i.out.items _ (omega (arith, c.loop-i-test.false)) c.loop-i.invariant.0
    ∙ ap (λ (l : List ℕ). c.args.out.now.items ++ l) (list_is c.args.block.now)
