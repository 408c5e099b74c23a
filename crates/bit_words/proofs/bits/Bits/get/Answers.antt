use Rattle.std.proofs.Common.{◌/◌, ◌%◌, eqb, ap, ◌∙◌, arith, lit<}
use Rattle.std.specs.Int.{bit_at}
use Rattle.std.proofs.lemmas.List.{get_or_read}
use Rattle.std.proofs.lemmas.Nat.Bits.{shr_and_one}
use Rattle.bit_model.specs.Packed.{packed, packed_bit}
use Rattle.bit_words.proofs.Packing.{packed_bit-packed, word_place-lt}
use Rattle.bit_words.proofs.bits.Bits.get.Goals as goal

pub index-requires : goal.index-requires
index-requires g c =
    let held = c.self.invariant.0 ∙ ap (packed 64) c.self.view_is in
    omega (arith, word_place-lt c.args.self.now c.self.inside.words.items c.args.i held c.requires, c.self.inside.words.ok.0)

pub returns : goal.returns
returns g c =
    let held = c.self.invariant.0 ∙ ap (packed 64) c.self.view_is in
    let within = word_place-lt c.args.self.now c.self.inside.words.items c.args.i held c.requires in
    ap (λ (n : _). eqb n 1) (shr_and_one c.index.result.now (c.args.i % 64))
    ∙ ap (λ (n : _). eqb (bit_at n (c.args.i % 64)) 1) (get_or_read c.self.inside.words.items (c.args.i / 64) c.index.result.now within c.index.ensures 0)
    ∙ ap (λ (ns : _). packed_bit 64 ns c.args.i) held
    ∙ packed_bit-packed 64 c.args.self.now c.args.i (lit< tt)
