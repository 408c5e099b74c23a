use Rattle.std.proofs.Common.{◌≡◌, ◌+◌, ◌≤◌, Some, length, count_by}
use Rattle.entry_model.specs.Newest.{KeysRise}
use Rattle.entry_model.specs.Entries.{Entry}
use Rattle.map_model.specs.Slices.{is_up_to, is_between}
use Rattle.store_core.proofs.explaining.entries_between.Given as goal

-- those so far, and those up to the upper bound among what is left, which rises
abbrev pub invariant-loop-key : goal.invariant-loop-key
invariant-loop-key l = record {
  counted : l.count + count_by (λ (e : Entry). is_up_to (Some l.high) e.key) l.cursor ≡ count_by (λ (e : Entry). is_between l.low (Some l.high) e.key) l.memory.entries;
  rises : KeysRise l.cursor;
  few : l.count + length l.cursor ≤ length l.memory.entries;
}

abbrev pub decreases-loop-key : goal.decreases-loop-key
decreases-loop-key l = length l.cursor
