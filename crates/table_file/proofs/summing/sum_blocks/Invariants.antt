use Rattle.std.proofs.Common.{◌≡◌, length}
use Rattle.table_file.specs.BlockRows.{AreRowsOf, rows_seen, summed_rows}
use Rattle.table_file.proofs.summing.sum_blocks.Given as goal

abbrev pub invariant-loop-n : goal.invariant-loop-n
invariant-loop-n l = record {
  are : AreRowsOf l.rows l.blocks;
  same : length l.rows ≡ length l.fn.rows;
  sums : rows_seen l.rows ≡ summed_rows l.n (rows_seen l.fn.rows) l.blocks;
}
