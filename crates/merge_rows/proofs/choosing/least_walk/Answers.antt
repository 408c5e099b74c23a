use Rattle.std.proofs.Common.{◌∙◌, ◌-◌, ap}
use Rattle.merge_rows.specs.Choosing.{head_in, with_head}
use Rattle.merge_rows.proofs.Least.{least_step}
use Rattle.merge_rows.proofs.choosing.least_walk.Goals as goal

pub loop-i-preserved : goal.loop-i-preserved
loop-i-preserved c =
    let walks = c.args.walks.now in
    let newer = c.loop-i.i - 1 in
    record {
      least = c.nearer-least.ensures.nearer
          ∙ ap (with_head newer (head_in walks newer)) c.loop-i.invariant.least
          ∙ least_step walks c.loop-i.i c.loop-i-test.true c.loop-i.auto.i;
      there = c.nearer-least.ensures.there;
    }
