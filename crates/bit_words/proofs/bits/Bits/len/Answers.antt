use Rattle.std.proofs.Common.{length, sym, ap, ◌∙◌}
use Rattle.bit_words.proofs.Packing.{length-unpacked}
use Rattle.bit_words.proofs.bits.Bits.len.Goals as goal

pub returns : goal.returns
returns g c = sym (length-unpacked 64 c.self.inside.words.items c.self.inside.len) ∙ ap length c.self.view_is
