use Rattle.bit_words.proofs.Numbers.{number_back, bits_back, numbers_join}
use Rattle.bit_words.proofs.laws.number_laws.Goals as goal

pub returns : goal.returns
returns c = record {
  number = number_back;
  bits = bits_back;
  join = numbers_join;
}
