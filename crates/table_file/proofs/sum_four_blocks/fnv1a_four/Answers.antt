use Rattle.std.proofs.Common.{◌*◌, ◌∙◌, take, ap}
use Rattle.byte_fields.specs.Sums.{fnv_of}
use Rattle.table_file.proofs.BlockSums.{turn_more}
use Rattle.table_file.proofs.sum_four_blocks.fnv1a_four.Goals as goal

pub loop-turn-preserved : goal.loop-turn-preserved
loop-turn-preserved c =
    let t = c.loop-turn.turn in
    record {
      one = c.feed.ensures.whole (take (8 * t) c.args.first.now) c.loop-turn.invariant.one ∙ ap fnv_of (turn_more c.args.first.now t);
      two = c.feed-in-loop-turn.ensures.whole (take (8 * t) c.args.second.now) c.loop-turn.invariant.two ∙ ap fnv_of (turn_more c.args.second.now t);
      three = c.feed-in-loop-turn-2.ensures.whole (take (8 * t) c.args.third.now) c.loop-turn.invariant.three ∙ ap fnv_of (turn_more c.args.third.now t);
      four = c.feed-in-loop-turn-3.ensures.whole (take (8 * t) c.args.fourth.now) c.loop-turn.invariant.four ∙ ap fnv_of (turn_more c.args.fourth.now t);
    }
