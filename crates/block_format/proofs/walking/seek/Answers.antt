use Rattle.std.proofs.Common.{◌<◌, List, refl, sym, ap, ◌∙◌, arith}
use Rattle.entry_model.specs.Entries.{Entry}
use Rattle.entry_model.specs.Newest.{entries_from}
use Rattle.block_format.proofs.Seeks.{none_passed, one_passed}
use Rattle.block_format.proofs.Walked.{none_walked}
use Rattle.block_format.proofs.walking.seek.Goals as goal

pub loop-init : goal.loop-init
loop-init c = record { room = refl; stands = c.requires.stands; many = omega arith; same = refl }

pub is_next_below-requires-clause-some : goal.is_next_below-requires-clause-some
is_next_below-requires-clause-some c = omega (arith, c.loop.invariant.many, c.loop-test.true)

pub returns-then-not-is_next_below-clause-entries : goal.returns-then-not-is_next_below-clause-entries
returns-then-not-is_next_below-clause-entries c =
    let l = c.loop in
    let some : 0 < l.on.left = omega (arith, l.invariant.many, c.loop-test.true) in
    sym (l.invariant.same ∙ none_passed l.on l.buffer c.args.bytes.now c.args.low.now some l.invariant.stands (sym c.is_next_below.ensures ∙ c.if-not-is_next_below.true))

pub loop-preserved : goal.loop-preserved
loop-preserved c =
    let l = c.loop in
    let some : 0 < l.on.left = omega (arith, l.invariant.many, c.loop-test.true) in
    let next = one_passed l.on l.buffer c.args.bytes.now c.args.low.now some l.invariant.stands c.advance.new.self c.advance.new.buffer c.advance.result
    (sym c.is_next_below.ensures ∙ c.if-not-is_next_below.false) c.advance.ensures.entries in
    record {
      room = c.advance.ensures.room ∙ l.invariant.room;
      stands = c.advance.ensures.stands;
      many = omega (arith, l.invariant.many, next.1);
      same = l.invariant.same ∙ next.0;
    }

pub returns-clause-entries : goal.returns-clause-entries
returns-clause-entries c =
    let l = c.loop in
    let none = none_walked l.on l.buffer c.args.bytes.now (omega (arith, l.invariant.many, c.loop-test.false)) in
    none ∙ sym (l.invariant.same ∙ ap (λ (es : List Entry). entries_from es c.args.low.now) none)
