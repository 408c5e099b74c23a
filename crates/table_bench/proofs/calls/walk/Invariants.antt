use Rattle.std.proofs.Common.{◌≤◌}
use Rattle.table_file.specs.Walks.{most_block_pages}
use Rattle.table_bench.proofs.calls.walk.Given as goal

abbrev pub invariant-loop : goal.invariant-loop
invariant-loop l = most_block_pages l.made.table.index.rows ≤ l.cursor.room
