use Rattle.std.proofs.Common.{sym}
use Rattle.suffix_bits.proofs.Packing.{packed-unpacked}
use Rattle.suffix_bits.proofs.suffixes.Suffixes.bits.Goals as goal

pub returns : goal.returns
returns g c =
    rw (← c.self.view_is) (sym (packed-unpacked c.self.inside.hash_bits c.self.inside.real_bits c.self.inside.bits c.self.inside.count c.self.invariant.0))
