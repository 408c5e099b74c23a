use Rattle.std.proofs.Common.{refl, arith}
use Rattle.bit_model.specs.Packed.{packed, unpacked}
use Rattle.bit_words.proofs.builder.BitsBuilder.with_room.Goals as goal

pub invariant_of-result : goal.invariant_of-result
unfolding packed unpacked
invariant_of-result g c = (rw c.in_ok-with_capacity.ensures.items refl, omega arith, omega arith, omega (arith, c.div_ceil.ensures, c.in_ok-with_capacity.ensures.exact))

pub returns : goal.returns
unfolding unpacked
returns g c = refl
