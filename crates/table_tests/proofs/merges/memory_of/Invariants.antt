use Rattle.std.specs.List.{AllByRecursion}
use Rattle.entry_model.specs.Entries.{IsEntry}
use Rattle.table_tests.proofs.merges.memory_of.Given as goal

abbrev pub invariant-loop-key : goal.invariant-loop-key
invariant-loop-key l = AllByRecursion IsEntry l.memory.entries
