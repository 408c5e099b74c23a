use Rattle.std.proofs.Common.{◌≡◌, length, sym, ap, ◌∙◌, arith, eq-eqb}
use Rattle.std.proofs.lemmas.List.{nil_from_length}
use Rattle.std.proofs.lemmas.Bool.Decides.{nat_tests}
use Rattle.bit_words.proofs.Packing.{length-unpacked}
use Rattle.bit_words.proofs.bits.Bits.is_empty.Goals as goal

pub returns : goal.returns
returns g c =
    let long : length c.args.self.now ≡ c.self.inside.len = sym (ap length c.self.view_is) ∙ length-unpacked 64 c.self.inside.words.items c.self.inside.len in
    (λ yes. nil_from_length c.args.self.now (long ∙ grind (arith, nat_tests)), λ none. eq-eqb c.self.inside.len 0 (sym long ∙ ap length none))
