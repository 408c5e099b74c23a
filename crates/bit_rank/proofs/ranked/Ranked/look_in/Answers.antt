use Rattle.std.proofs.Common.{◌≡◌, ◌+◌, ◌%◌, ap, arith, ◌∙◌, eqb}
use Rattle.std.proofs.lemmas.Nat.Bits.{shr_and_one}
use Rattle.bit_words.proofs.Counting.{rank-le}
use Rattle.bit_words.specs.Counts.{rank_of}
use Rattle.bit_rank.proofs.Ranks.{word_bit, word_rank}
use Rattle.bit_rank.proofs.ranked.Ranked.look_in.Goals as goal

pub overflow_add-rank : goal.overflow_add-rank
overflow_add-rank g c = record {
  fits =
      omega (
        arith,
        c.ones_below.ensures,
        word_rank c.args.self.now c.args.word c.args.i c.requires.word c.requires.number,
        rank-le c.args.self.now c.args.i,
        c.ranges.i.fits,
      );
}

pub returns-clause-bit : goal.returns-clause-bit
returns-clause-bit g c =
    ap (λ (n : _). eqb n 1) (shr_and_one c.args.word.word (c.args.i % 64)) ∙ word_bit c.args.self.now c.args.word c.args.i c.requires.word c.requires.number

pub returns-clause-rank : goal.returns-clause-rank
returns-clause-rank g c =
    let sum : c.args.word.before + c.ones_below.result ≡ rank_of c.args.self.now c.args.i =
    omega (arith, c.ones_below.ensures, word_rank c.args.self.now c.args.word c.args.i c.requires.word c.requires.number) in
    sum
