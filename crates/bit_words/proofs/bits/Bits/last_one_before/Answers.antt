use Rattle.bit_words.proofs.Searching.{last_of_bits}
use Rattle.bit_words.proofs.bits.Bits.last_one_before.Goals as goal

pub returns : goal.returns
returns g c = last_of_bits c.args.self.now c.words.result.now c.args.end c.last_one_before.result c.words.ensures.value c.last_one_before.ensures
