use Rattle.std.proofs.Common.{◌≡◌, ◌∷◌, [], ◌∙◌, ap}
use Rattle.bit_model.specs.Numbers.{bits_of}
use Rattle.bit_words.proofs.Numbers.{bits_of-bit}
use Rattle.bit_words.proofs.bits.Bits.push.Goals as goal

pub returns-clause-added : goal.returns-clause-added
returns-clause-added g c =
    let bit : bits_of 1 c.from.result ≡ c.args.bit ∷ [] = ap (bits_of 1) c.from.ensures ∙ bits_of-bit c.args.bit in
    rw bit at c.push_number.ensures.added
