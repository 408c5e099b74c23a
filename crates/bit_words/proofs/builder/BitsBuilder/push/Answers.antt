use Rattle.std.proofs.Common.{◌∙◌, ap}
use Rattle.bit_words.specs.Room.{with_bits}
use Rattle.bit_model.specs.Numbers.{bits_of}
use Rattle.bit_words.proofs.Numbers.{bits_of-bit}
use Rattle.bit_words.proofs.builder.BitsBuilder.push.Goals as goal

pub returns : goal.returns
returns g c =
    c.push_number.ensures ∙ ap (λ n. with_bits (bits_of 1 n) c.args.self.now) c.from.ensures
    ∙ ap (λ bs. with_bits bs c.args.self.now) (bits_of-bit c.args.bit)
