use Rattle.std.proofs.Common.{◌≡◌, ◌∙◌, ◌++◌, false, List, length, refl, sym, ap, subst, arith}
use Rattle.std.specs.Borrow.{Bor}
use Rattle.std.specs.Option.{option_map}
use Rattle.std.specs.Ordering.{is_ge}
use Rattle.entry_model.specs.Entries.{Entry, entry_of}
use Rattle.key_base.specs.ByteOrder.{is_before}
use Rattle.map_model.specs.SortedMap.{Bytes, byte_order}
use Rattle.state_model.proofs.SoundLogs.{follow_of}
use Rattle.store_core.specs.Flushing.{entries_below}
use Rattle.store_core.proofs.LongValues.{below_stopped, built_as, follows_there, is_sound_there, not_less, rises_there}
use Rattle.store_core.proofs.PlannedRows.{entries_from_all}
use Rattle.store_core.proofs.long_values.add_below.Goals as goal

pub loop-init : goal.loop-init
loop-init c =
    let all = c.cursor-cursor.ensures ∙ entries_from_all c.args.memory.now.entries in (
      (refl, refl),
      ap (λ (es : List Entry). es ++ c.cursor-cursor.result) c.requires.empty ∙ all,
      ap (λ (es : List Entry). es ++ entries_below c.cursor-cursor.result c.args.key.now) c.requires.empty ∙ ap (λ (es : List Entry). entries_below es c.args.key.now) all,
      omega (arith, ap (λ (es : List Entry). length es) all),
    )

pub add-requires-clause-sound : goal.add-requires-clause-sound
add-requires-clause-sound c =
    is_sound_there c.args.memory.now.entries c.loop.builder.entries _ c.next.new.self
    (subst (λ (es : List Entry). c.loop.builder.entries ++ es ≡ c.args.memory.now.entries) c.in-Some.ensures c.loop.invariant.1) c.requires.sound

pub add-requires-clause-rising : goal.add-requires-clause-rising
add-requires-clause-rising c =
    follows_there c.args.memory.now.entries c.loop.builder.entries _ c.next.new.self
    (subst (λ (es : List Entry). c.loop.builder.entries ++ es ≡ c.args.memory.now.entries) c.in-Some.ensures c.loop.invariant.1) (follow_of c.args.memory.now.entries c.requires.rises)

-- an entry that is not below the key ends it
pub returns-then-is_ge : goal.returns-then-is_ge
returns-then-is_ge c =
    let e = entry_of c.in-Some.other.now (option_map (λ (v : Bor Bytes). v.now) c.in-Some.value) in
    let from : is_before c.in-Some.other.now c.args.key.now ≡ false = not_less (byte_order c.in-Some.other.now c.args.key.now) (ap is_ge (sym c.compare.ensures) ∙ sym c.is_ge.ensures ∙ c.if-is_ge.true) in
    let are = subst (λ (es : List Entry). c.loop.builder.entries ++ es ≡ c.args.memory.now.entries) c.in-Some.ensures c.loop.invariant.1 in
    let below = subst (λ (es : List Entry). c.loop.builder.entries ++ entries_below es c.args.key.now ≡ entries_below c.args.memory.now.entries c.args.key.now) c.in-Some.ensures c.loop.invariant.2 in
    built_as c.loop.builder c.args.builder.now (entries_below c.args.memory.now.entries c.args.key.now) c.loop.invariant.0.0 c.loop.invariant.0.1
    (below_stopped c.args.key.now c.loop.builder.entries e c.next.new.self (entries_below c.args.memory.now.entries c.args.key.now) from
    (rises_there c.args.memory.now.entries c.loop.builder.entries e c.next.new.self are c.requires.rises) below)
