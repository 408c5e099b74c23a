use Rattle.bit_words.proofs.Packing.{unpacked-packed, packed_bit-packed, packed_is}
use Rattle.bit_words.proofs.Counting.{ones-take_packed}
use Rattle.bit_words.proofs.laws.packing_laws.Goals as goal

pub returns : goal.returns
returns c = record {
  read_back = unpacked-packed;
  places = packed_bit-packed;
  only = packed_is;
  counts = ones-take_packed;
}
