use Rattle.std.proofs.Common.{refl, lit≤}
use Rattle.bit_model.specs.Packed.{packed, unpacked}
use Rattle.bit_words.proofs.bits.Bits.new.Goals as goal

pub invariant_of-result : goal.invariant_of-result
unfolding packed unpacked
invariant_of-result g c = (rw c.new.ensures.items refl, lit≤ tt)

pub returns : goal.returns
unfolding unpacked
returns g c = refl
