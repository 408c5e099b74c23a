use Rattle.std.proofs.Common.{◌∙◌, length, sym, ap, subst, arith, List}
use Rattle.std.specs.Option.{option_map}
use Rattle.std.specs.Ordering.{is_lt}
use Rattle.entry_model.specs.Entries.{Entry, entry_of}
use Rattle.entry_model.specs.Newest.{KeysRise}
use Rattle.store_core.proofs.Countings.{from_few, from_rises, from_then_up_to, one_above, up_to_count}
use Rattle.store_core.proofs.explaining.entries_between.Goals as goal

pub loop-key-init : goal.loop-key-init
loop-key-init c =
    let entries = c.args.memory.now.entries in
    let low = c.args.low.now in
    let high = c.args.high.now in
    let left = ap (up_to_count high) c.cursor-cursor.ensures ∙ from_then_up_to low high entries in
    record {
      counted = omega (arith, left);
      rises = subst KeysRise (sym c.cursor-cursor.ensures) (from_rises low entries c.requires.rises);
      few = omega (arith, from_few low entries, ap (λ (es : List Entry). length es) c.cursor-cursor.ensures);
    }

pub returns-then-is_lt-clause-count : goal.returns-then-is_lt-clause-count
returns-then-is_lt-clause-count c =
    let high = c.args.high.now in
    let above = ap is_lt (sym c.compare.ensures) ∙ sym c.is_lt.ensures ∙ c.if-is_lt.true in
    let none = ap (up_to_count high) c.in-Some.ensures ∙ one_above high (entry_of c.in-Some.key.now (option_map (λ v. v.now) c.in-Some.field-0-1)) c.next.new.self above (subst KeysRise c.in-Some.ensures c.loop-key.invariant.rises) in
    omega (arith, c.loop-key.invariant.counted, none)

pub overflow_add-count : goal.overflow_add-count
overflow_add-count c = omega (arith, c.loop-key.invariant.few, c.requires.some)
