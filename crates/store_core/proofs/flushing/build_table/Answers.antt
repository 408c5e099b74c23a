use Rattle.std.proofs.Common.{◌≡◌, ◌∙◌, ◌++◌, List, length, ap, subst}
use Rattle.entry_model.specs.Entries.{Entry}
use Rattle.table_file.specs.Building.{Built}
use Rattle.store_core.proofs.PlannedRows.{entries_from_all, entry_follows, entry_is_sound}
use Rattle.store_core.proofs.flushing.build_table.Goals as goal

pub loop-init : goal.loop-init
loop-init g c = (
  (ap (λ (b : Built). b.settings) c.new-builder.ensures, ap (λ (b : Built). b.ranges) c.new-builder.ensures),
  ap (λ (b : Built). b.entries ++ c.cursor-cursor.result) c.new-builder.ensures ∙ c.cursor-cursor.ensures ∙ entries_from_all c.args.memory.now.entries,
  ap (λ (b : Built). length b.entries) c.new-builder.ensures,
)

pub add-requires-clause-sound : goal.add-requires-clause-sound
add-requires-clause-sound g c =
    entry_is_sound c.args.memory.now.entries c.loop.builder.entries _ c.next.new.self
    (subst (λ (es : List Entry). c.loop.builder.entries ++ es ≡ c.args.memory.now.entries) c.in-Some.ensures c.loop.invariant.1) c.requires.table

pub add-requires-clause-rising : goal.add-requires-clause-rising
add-requires-clause-rising g c =
    entry_follows c.args.memory.now.entries c.loop.builder.entries _ c.next.new.self
    (subst (λ (es : List Entry). c.loop.builder.entries ++ es ≡ c.args.memory.now.entries) c.in-Some.ensures c.loop.invariant.1) c.requires.table
