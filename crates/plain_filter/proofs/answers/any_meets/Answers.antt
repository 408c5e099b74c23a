use Rattle.std.proofs.Common.{sym, ◌∙◌}
use Rattle.filter_model.specs.Answers.{meets}
use Rattle.filter_api.specs.Seen.{seen}
use Rattle.plain_filter.proofs.Loops.{any-rest_false, any-rest_true}
use Rattle.plain_filter.proofs.answers.any_meets.Goals as goal

pub loop-i-preserved : goal.loop-i-preserved
loop-i-preserved c =
    c.loop-i.invariant
    ∙ any-rest_false (meets c.args.real_bits c.args.lo.now c.args.hi.now) c.args.leaves.now c.loop-i.i (seen c.get.result.now) c.get.ensures (sym c.leaf_meets.ensures ∙ c.if-leaf_meets.false)

pub returns-then-leaf_meets : goal.returns-then-leaf_meets
returns-then-leaf_meets c =
    sym (c.loop-i.invariant
    ∙ any-rest_true (meets c.args.real_bits c.args.lo.now c.args.hi.now) c.args.leaves.now c.loop-i.i (seen c.get.result.now) c.get.ensures (sym c.leaf_meets.ensures ∙ c.if-leaf_meets.true))
