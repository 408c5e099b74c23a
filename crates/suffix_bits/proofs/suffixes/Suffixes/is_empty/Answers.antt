use Rattle.std.proofs.Common.{◌≡◌, length, sym, ap, ◌∙◌, arith, eq-eqb}
use Rattle.std.proofs.lemmas.List.{nil_from_length}
use Rattle.std.proofs.lemmas.Bool.Decides.{nat_tests}
use Rattle.suffix_bits.proofs.Packing.{length-unpacked}
use Rattle.suffix_bits.proofs.suffixes.Suffixes.is_empty.Goals as goal

pub returns : goal.returns
returns g c =
    let long : length c.args.self.now.slots ≡ c.self.inside.count =
    rw (← c.self.view_is) (length-unpacked c.self.inside.hash_bits c.self.inside.real_bits c.self.inside.bits c.self.inside.count) in
    (λ yes. nil_from_length c.args.self.now.slots (long ∙ grind (arith, nat_tests)), λ none. eq-eqb c.self.inside.count 0 (sym long ∙ ap length none))
