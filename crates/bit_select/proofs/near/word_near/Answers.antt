use Rattle.std.proofs.Common.{◌≡◌, ◌+◌, ap, arith}
use Rattle.bit_select.proofs.FirstFour.{near}
use Rattle.bit_select.proofs.near.word_near.Goals as goal

pub returns-clause-word : goal.returns-clause-word
returns-clause-word c =
    rw (c.if_passed.ensures, c.if_passed-2.ensures, c.if_passed-3.ensures, c.if_passed-4.ensures, c.if_passed-5.ensures, c.if_passed-6.ensures)
    (near c.args.words.now c.args.n c.ones_of-first.result (c.ones_of-first.result + c.ones_of.result) (c.ones_of-first.result + c.ones_of.result + c.ones_of-2.result)
    c.if-words-lt-NEAR.false
    c.ones_of-first.ensures.count
    (ap (λ n. c.ones_of-first.result + n) c.ones_of.ensures.count)
    (ap (λ n. c.ones_of-first.result + c.ones_of.result + n) c.ones_of-2.ensures.count)
    (omega (arith, c.if-n-third.false, c.ones_of-3.ensures.count)))
