use Rattle.bit_words.proofs.Searching.{first_of_bits}
use Rattle.bit_words.proofs.bits.Bits.first_one_from.Goals as goal

pub returns : goal.returns
returns g c = first_of_bits c.args.self.now c.words.result.now c.args.start c.first_one_from.result c.words.ensures.value c.first_one_from.ensures
