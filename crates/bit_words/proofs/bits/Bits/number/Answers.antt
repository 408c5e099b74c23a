use Rattle.std.proofs.Common.{◌≡◌, ℕ, ◌%◌, ◌^◌, length, min, ap, ◌∙◌, arith}
use Rattle.std.proofs.Math.Nat.{le_refl}
use Rattle.bit_model.specs.Packed.{packed}
use Rattle.bit_words.proofs.Counting.{words_cover}
use Rattle.bit_words.proofs.Numbers.{number_is}
use Rattle.bit_words.proofs.bits.Bits.number.Goals as goal

pub number_from-requires-clause-there : goal.number_from-requires-clause-there
number_from-requires-clause-there g c =
    let held = c.self.invariant.0 ∙ ap (packed 64) c.self.view_is in
    omega (
      arith,
      c.requires.there,
      words_cover c.args.self.now c.self.inside.words.items (length c.args.self.now) held (le_refl (length c.args.self.now)),
      ap length c.deref.ensures.value,
    )

pub returns : goal.returns
returns g c =
    let held = c.self.invariant.0 ∙ ap (packed 64) c.self.view_is in
    let less : min 64 c.args.count ≡ c.args.count = omega (arith, c.requires.width) in
    c.low_bits.ensures ∙ ap (λ (m : ℕ). c.number_from.result % 2 ^ m) less
    ∙ number_is c.args.self.now c.deref.result.now c.args.i c.args.count c.number_from.result (c.deref.ensures.value ∙ held) c.requires.there c.number_from.ensures
