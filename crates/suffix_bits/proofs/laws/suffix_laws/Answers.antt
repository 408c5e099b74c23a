use Rattle.suffix_bits.proofs.Packing.{unpacked-packed, packed-unpacked}
use Rattle.suffix_bits.proofs.laws.suffix_laws.Goals as goal

pub returns : goal.returns
returns c = record {
  suffixes = unpacked-packed;
  bits = packed-unpacked;
}
