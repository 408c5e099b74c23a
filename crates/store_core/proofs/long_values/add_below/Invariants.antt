use Rattle.std.proofs.Common.{◌≡◌, ◌++◌, ◌+◌, ◌≤◌, length}
use Rattle.store_core.specs.Flushing.{entries_below}
use Rattle.store_core.proofs.long_values.add_below.Given as goal

-- what was added and what is left are the memory's entries, and those below the key among them
abbrev pub invariant-loop : goal.invariant-loop
invariant-loop l =
    ((l.builder.settings ≡ l.fn.builder.settings) × (l.builder.ranges ≡ l.fn.builder.ranges)) × (l.builder.entries ++ l.cursor ≡ l.memory.entries)
    × (l.builder.entries ++ entries_below l.cursor l.key ≡ entries_below l.memory.entries l.key) × (length l.cursor + l.counter ≤ length l.memory.entries)
