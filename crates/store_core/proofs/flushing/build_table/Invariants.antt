use Rattle.std.proofs.Common.{◌≡◌, ◌++◌, [], length}
use Rattle.store_core.proofs.flushing.build_table.Given as goal

abbrev pub invariant-loop : goal.invariant-loop
invariant-loop g l = ((l.builder.settings ≡ l.fn.settings) × (l.builder.ranges ≡ [])) × (l.builder.entries ++ l.cursor ≡ l.memory.entries) × (length l.builder.entries ≡ l.counter)
