use Rattle.std.proofs.Common.{length, ap, arith}
use Rattle.bit_model.specs.Packed.{unpacked}
use Rattle.bit_words.proofs.Packing.{length-packed, length-unpacked}
use Rattle.bit_words.proofs.bits.Bits.words.Goals as goal

pub returns-clause-limit : goal.returns-clause-limit
returns-clause-limit g c =
    let bits = unpacked 64 c.self.inside.words.items c.self.inside.len in
    omega (
      arith,
      ap length c.as_slice.ensures.value,
      ap length c.self.invariant.0,
      length-packed 64 bits,
      length-unpacked 64 c.self.inside.words.items c.self.inside.len,
      c.self.invariant.1,
    )
