use Rattle.std.proofs.Common.{◌∙◌, ◌<◌, ℕ, length, sym, ap, ap₂, subst}
use Rattle.std.specs.Prelude.{IfSome, Option}
use Rattle.std.specs.Ordering.{is_lt}
use Rattle.key_base.specs.ByteOrder.{is_before}
use Rattle.map_model.specs.SortedMap.{Bytes}
use Rattle.late_rows.proofs.Sooner.{at_key, next_of_first, next_of_later, next_of_none, next_of_sooner, of_next}
use Rattle.late_rows.proofs.next.sooner.Goals as goal

pub returns-in_default-clause-next : goal.returns-in_default-clause-next
returns-in_default-clause-next c =
    next_of_none c.args.at _ c.args.next c.requires.next (at_key (λ v. v.items) c.args.asleep.now c.args.at c.index-asleep-at.result _ c.requires.here c.index-asleep-at.is c.in_default.is)

pub returns-in_default-next-clause-next : goal.returns-in_default-next-clause-next
returns-in_default-next-clause-next c =
    next_of_first c.args.at _ c.in-Some.key.items (of_next c.args.at _ c.args.next _ c.in_default-next.is c.requires.next)
    (at_key (λ v. v.items) c.args.asleep.now c.args.at c.index-asleep-at.result _ c.requires.here c.index-asleep-at.is c.in-Some.is)

pub returns-then-is_lt-clause-next : goal.returns-then-is_lt-clause-next
returns-then-is_lt-clause-next c =
    let lt = subst (λ (o : Option ℕ). IfSome o (λ k. k < length c.args.asleep.now)) c.in-Some-next.is c.requires.there in
    next_of_sooner c.args.at c.in-Some-next.other _ c.in-Some.key.items c.in-Some-asleep.least.items (of_next c.args.at _ c.args.next _ c.in-Some-next.is c.requires.next)
    (at_key (λ v. v.items) c.args.asleep.now c.args.at c.index-asleep-at.result _ c.requires.here c.index-asleep-at.is c.in-Some.is)
    (at_key (λ v. v.items) c.args.asleep.now c.in-Some-next.other c.index-asleep-other.result _ lt c.index-asleep-other.is c.in-Some-asleep.is)
    (ap₂ (λ (a b : Bytes). is_before a b) (sym c.deref.ensures.value) (sym c.deref-2.ensures.value) ∙ ap is_lt (sym c.compare.ensures) ∙ sym c.is_lt.ensures ∙ c.if-is_lt.true)

pub returns-clause-next : goal.returns-clause-next
returns-clause-next c =
    let lt = subst (λ (o : Option ℕ). IfSome o (λ k. k < length c.args.asleep.now)) c.in-Some-next.is c.requires.there in
    next_of_later c.args.at c.in-Some-next.other _ c.in-Some.key.items c.in-Some-asleep.least.items (of_next c.args.at _ c.args.next _ c.in-Some-next.is c.requires.next)
    (at_key (λ v. v.items) c.args.asleep.now c.args.at c.index-asleep-at.result _ c.requires.here c.index-asleep-at.is c.in-Some.is)
    (at_key (λ v. v.items) c.args.asleep.now c.in-Some-next.other c.index-asleep-other.result _ lt c.index-asleep-other.is c.in-Some-asleep.is)
    (ap₂ (λ (a b : Bytes). is_before a b) (sym c.deref.ensures.value) (sym c.deref-2.ensures.value) ∙ ap is_lt (sym c.compare.ensures) ∙ sym c.is_lt.ensures ∙ c.if-is_lt.false)
