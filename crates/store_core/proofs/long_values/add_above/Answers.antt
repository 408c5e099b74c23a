use Rattle.std.proofs.Common.{◌≡◌, ◌∙◌, ◌+◌, ◌≤◌, ◌++◌, true, not, List, length, refl, sym, ap, subst, arith}
use Rattle.std.specs.List.{AllByRecursion}
use Rattle.std.specs.Borrow.{Bor}
use Rattle.std.specs.Option.{option_map}
use Rattle.entry_model.specs.Entries.{Entry, IsEntry, entry_of}
use Rattle.key_base.specs.ByteOrder.{is_before}
use Rattle.map_model.specs.SortedMap.{Bytes}
use Rattle.table_file.specs.Building.{Built}
use Rattle.store_core.specs.Flushing.{entries_above}
use Rattle.store_core.proofs.LongValues.{above_added, above_from, above_passed, added_one, follows_there, from_begins, from_few, from_sound, not_true, same_of, unlike_of}
use Rattle.store_core.proofs.long_values.add_above.Goals as goal
use Rattle.store_core.proofs.long_values.add_above.Goals.{then-ne+in_ok-add-in-Some, else-ne}

pub loop-init : goal.loop-init
loop-init c =
    let key = c.args.key.now in
    let entries = c.args.memory.now.entries in
    let from = c.cursor-cursor.ensures in (
      (refl, refl),
      ap (λ (es : List Entry). c.args.builder.now.entries ++ es) (ap (λ (es : List Entry). entries_above es key) from ∙ above_from key entries),
      omega (arith, ap (λ (es : List Entry). length es) from, from_few entries key),
      subst (AllByRecursion (λ (e : Entry). not (is_before e.key key) ≡ true)) (sym from) (from_begins entries key),
      subst (AllByRecursion IsEntry) (sym from) (from_sound entries key c.requires.sound),
    )

pub add-requires-clause-rising : goal.add-requires-clause-rising
add-requires-clause-rising c =
    let key = c.args.key.now in
    let e = entry_of c.in-Some.other.now (option_map (λ (v : Bor Bytes). v.now) c.in-Some.value) in
    let total = c.args.builder.now.entries ++ entries_above c.args.memory.now.entries key in
    let begins = subst (AllByRecursion (λ (x : Entry). not (is_before x.key key) ≡ true)) c.in-Some.ensures c.loop.invariant.3 in
    let unlike = unlike_of c.in-Some.other.now key (sym c.ne.ensures ∙ c.if-ne.true) in
    let are = subst (λ (es : List Entry). c.loop.builder.entries ++ entries_above es key ≡ total) c.in-Some.ensures c.loop.invariant.1 in
    follows_there total c.loop.builder.entries e (entries_above c.next.new.self key)
    (above_added key c.loop.builder.entries e c.next.new.self total (not_true (is_before e.key key) begins.0) unlike are) c.requires.rising

pub loop-preserved : goal.loop-preserved
loop-preserved c =
    let key = c.args.key.now in
    let e = entry_of c.in-Some.other.now (option_map (λ (v : Bor Bytes). v.now) c.in-Some.value) in
    let rest = c.next.new.self in
    let total = c.args.builder.now.entries ++ entries_above c.args.memory.now.entries key in
    let begins = subst (AllByRecursion (λ (x : Entry). not (is_before x.key key) ≡ true)) c.in-Some.ensures c.loop.invariant.3 in
    let sound = subst (AllByRecursion IsEntry) c.in-Some.ensures c.loop.invariant.4 in
    let are = subst (λ (es : List Entry). c.loop.builder.entries ++ entries_above es key ≡ total) c.in-Some.ensures c.loop.invariant.1 in
    let less : length rest + (c.loop.counter + 1) ≤ length c.args.memory.now.entries = omega (arith, c.loop.invariant.2, ap (λ (es : List Entry). length es) c.in-Some.ensures) in
    elim c.if-ne.branch [
      | then-ne+in_ok-add-in-Some w ↦
          let unlike = unlike_of c.in-Some.other.now key (sym c.ne.ensures ∙ w.if-ne.true) in
          let new = w.builder-is ∙ w.in_ok-add-in-Some.ensures.added in (
            (ap (λ (b : Built). b.settings) new ∙ c.loop.invariant.0.0, ap (λ (b : Built). b.ranges) new ∙ c.loop.invariant.0.1),
            ap (λ (b : Built). b.entries ++ entries_above rest key) new
                ∙ added_one c.loop.builder.entries e (entries_above rest key) total (above_added key c.loop.builder.entries e rest total (not_true (is_before e.key key) begins.0) unlike are),
            less,
            begins.1,
            sound.1,
          )
      | else-ne w ↦
          let same = same_of c.in-Some.other.now key (sym c.ne.ensures ∙ w.if-ne.false) in (
            (ap (λ (b : Built). b.settings) w.builder-is ∙ c.loop.invariant.0.0, ap (λ (b : Built). b.ranges) w.builder-is ∙ c.loop.invariant.0.1),
            ap (λ (b : Built). b.entries ++ entries_above rest key) w.builder-is ∙ above_passed key c.loop.builder.entries e rest total same are,
            less,
            begins.1,
            sound.1,
          )
    ]
