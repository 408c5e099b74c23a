use Rattle.std.proofs.Common.{◌≡◌}
use Rattle.range_model.specs.Sources.{source_of}
use Rattle.mem_table.specs.Table.{source_in}
use Rattle.mem_table.proofs.table.MemTable.set_in_turn.Given as goal

abbrev pub invariant-loop-change : goal.invariant-loop-change
invariant-loop-change l = source_in l.table ≡ source_of l.yielded
