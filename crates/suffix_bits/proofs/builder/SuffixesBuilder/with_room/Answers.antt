use Rattle.std.proofs.Common.{List, ap}
use Rattle.suffix_bits.specs.Slots.{Suffix}
use Rattle.suffix_bits.proofs.Packing.{unpacked-nothing}
use Rattle.suffix_bits.proofs.builder.SuffixesBuilder.with_room.Goals as goal

pub returns : goal.returns
returns g c =
    ap (λ (xs : List Suffix). record { array = record { hash_bits = c.args.hash_bits; real_bits = c.args.real_bits; slots = xs }; limit = c.args.limit })
    (unpacked-nothing c.args.hash_bits c.args.real_bits c.in_ok-with_room.field-0.bits)
