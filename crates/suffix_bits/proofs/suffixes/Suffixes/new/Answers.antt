use Rattle.std.proofs.Common.{ap}
use Rattle.suffix_bits.proofs.Packing.{unpacked-nothing}
use Rattle.suffix_bits.proofs.suffixes.Suffixes.new.Goals as goal

pub returns : goal.returns
returns g c = ap (λ xs. record { hash_bits = c.args.hash_bits; real_bits = c.args.real_bits; slots = xs }) (unpacked-nothing c.args.hash_bits c.args.real_bits c.new.result)
