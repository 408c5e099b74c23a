use Rattle.std.proofs.Common.{length, sym, ap, ◌∙◌}
use Rattle.suffix_bits.specs.Room.{SuffixesInRoom}
use Rattle.suffix_bits.proofs.Packing.{length-unpacked}
use Rattle.suffix_bits.proofs.builder.SuffixesBuilder.len.Goals as goal

pub returns : goal.returns
returns g c =
    sym (length-unpacked c.self.inside.hash_bits c.self.inside.real_bits c.self.inside.bits.bits c.self.inside.count)
    ∙ ap (λ (s : SuffixesInRoom). length s.array.slots) c.self.view_is
