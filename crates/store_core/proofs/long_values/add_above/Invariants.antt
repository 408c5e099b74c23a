use Rattle.std.proofs.Common.{◌≡◌, ◌++◌, ◌+◌, ◌≤◌, true, not, length}
use Rattle.std.specs.List.{AllByRecursion}
use Rattle.entry_model.specs.Entries.{IsEntry}
use Rattle.key_base.specs.ByteOrder.{is_before}
use Rattle.store_core.specs.Flushing.{entries_above}
use Rattle.store_core.proofs.long_values.add_above.Given as goal

-- what was added and those above the key that are left, which begin at the key
abbrev pub invariant-loop : goal.invariant-loop
invariant-loop l =
    ((l.builder.settings ≡ l.fn.builder.settings) × (l.builder.ranges ≡ l.fn.builder.ranges)) × (l.builder.entries ++ entries_above l.cursor l.key ≡ l.fn.builder.entries ++ entries_above l.memory.entries l.key)
    × (length l.cursor + l.counter ≤ length l.memory.entries) × AllByRecursion (λ e. not (is_before e.key l.key) ≡ true) l.cursor × AllByRecursion IsEntry l.cursor
