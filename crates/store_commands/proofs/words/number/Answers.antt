use Rattle.std.proofs.Common.{arith, ◌+◌}
use Rattle.store_commands.proofs.Numbers.{too_great, next_digit, front_below}
use Rattle.store_commands.proofs.words.number.Goals as goal

pub returns-then-n-gt-MAX_RANGE_PAIRS : goal.returns-then-n-gt-MAX_RANGE_PAIRS
returns-then-n-gt-MAX_RANGE_PAIRS c =
    let word = c.args.word.now in
    let next = next_digit word c.loop-i.i c.loop-i-test.true in
    too_great word (omega (arith, next, front_below word (c.loop-i.i + 1), c.loop-i.invariant.so_far, c.from.ensures, c.saturating_sub.ensures, c.if-n-gt-MAX_RANGE_PAIRS.true))
