use Rattle.std.proofs.Common.{◌++◌, List, ℕ, ap, sym, ◌∙◌, arith}
use Rattle.std.proofs.lemmas.List.{append-nil}
use Rattle.byte_fields.specs.Fields.{fields}
use Rattle.byte_fields.proofs.PushLemmas.{fields_ended}
use Rattle.byte_fields.proofs.pushes.push_fields.Goals as goal

pub returns-clause-added : goal.returns-clause-added
returns-clause-added c =
    let none = fields_ended c.args.widths.now c.args.numbers.now c.loop-i.i (omega (arith, c.loop-i-test.false)) in
    sym (append-nil c.loop-i.out.items) ∙ sym (ap (λ (l : List ℕ). c.loop-i.out.items ++ l) none) ∙ c.loop-i.invariant.written
    ∙ ap (λ (l : List ℕ). l ++ fields c.args.widths.now c.args.numbers.now) c.in_ok-reserve.ensures.items
