use Rattle.std.proofs.Common.{◌≡◌, min, arith}
use Rattle.std.proofs.lemmas.Nat.{and_mask, one_shl}
use Rattle.bit_words.proofs.word.low_bits.Goals as goal

pub returns-then-count-lt64 : goal.returns-then-count-lt64
returns-then-count-lt64 c =
    let less : min 64 c.args.count ≡ c.args.count = omega arith in
    rw (one_shl c.args.count 64 c.if-count-lt64.true, less) (and_mask c.args.word c.args.count)
