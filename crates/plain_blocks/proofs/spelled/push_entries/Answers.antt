use Rattle.std.proofs.Common.{rules, arith, ◌+◌}
use Rattle.plain_blocks.proofs.Loops.{entries_done, entries_step}
use Rattle.plain_blocks.proofs.spelled.push_entries.Goals as goal

pub loop-i-preserved : goal.loop-i-preserved
loop-i-preserved c =
    entries_step c.loop-i.i (c.loop-i.i + 1) c.wants_shared.result c.loop-i.before.now c.key-key.result.now c.args.block.now c.index-block-i.result c.index-block-i-in-loop-i.result
    c.loop-i.out.items c.push_entry.new.out.items _ (omega arith) (search rules) c.index-block-i.is c.index-block-i-in-loop-i.is c.key-key.ensures c.wants_shared.ensures.shared
    c.in_ok-push_entry.ensures c.loop-i.invariant

pub returns : goal.returns
returns c = entries_done c.loop-i.i c.loop-i.before.now c.args.block.now c.loop-i.out.items _ (omega (arith, c.loop-i-test.false)) c.loop-i.invariant
