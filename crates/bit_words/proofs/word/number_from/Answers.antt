use Rattle.std.proofs.Common.{arith}
use Rattle.bit_words.proofs.Words.{read_first, read_both}
use Rattle.bit_words.proofs.word.number_from.Goals as goal

pub returns-then-shift-count-gt64 : goal.returns-then-shift-count-gt64
returns-then-shift-count-gt64 c = λ j below.
    read_both c.args.words.now c.args.i j (λ k. (c.type_inv.words k).fits) (omega (arith, c.requires.width)) (omega (arith, c.requires.width, c.if-shift-count-gt64.true))

pub returns-else-shift-count-gt64 : goal.returns-else-shift-count-gt64
returns-else-shift-count-gt64 c = λ j below. read_first c.args.words.now c.args.i j (omega (arith, c.if-shift-count-gt64.false))
