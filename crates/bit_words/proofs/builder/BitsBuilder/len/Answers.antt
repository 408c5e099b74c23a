use Rattle.std.proofs.Common.{length, sym, ap, ◌∙◌}
use Rattle.bit_words.proofs.Packing.{length-unpacked}
use Rattle.bit_words.proofs.builder.BitsBuilder.len.Goals as goal

pub returns : goal.returns
returns g c = sym (length-unpacked 64 c.self.inside.words.items c.self.inside.len) ∙ ap (λ b. length b.bits) c.self.view_is
