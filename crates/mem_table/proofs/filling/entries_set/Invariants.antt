use Rattle.std.proofs.Common.{◌≡◌}
use Rattle.mem_table.specs.Changes.{entries_set}
use Rattle.mem_table.proofs.filling.entries_set.Given as goal

abbrev pub invariant-loop-change : goal.invariant-loop-change
invariant-loop-change l = l.entries.items ≡ entries_set l.yielded
