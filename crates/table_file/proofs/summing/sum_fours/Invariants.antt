use Rattle.std.proofs.Common.{◌≡◌, ◌*◌, length}
use Rattle.table_file.specs.BlockRows.{AreRowsOf, rows_seen, summed_rows}
use Rattle.table_file.proofs.summing.sum_fours.Given as goal

abbrev pub invariant-loop-four : goal.invariant-loop-four
invariant-loop-four l = record {
  are : AreRowsOf l.rows l.blocks;
  same : length l.rows ≡ length l.initial.rows;
  sums : rows_seen l.rows ≡ summed_rows (4 * l.four) (rows_seen l.initial.rows) l.blocks;
}
