use Rattle.std.proofs.Common.{◌≡◌, ◌≤◌, ◌+◌, ◌-◌, ◌*◌, ◌++◌, length, drop}
use Rattle.block_model.specs.Index.{row_pages}
use Rattle.block_model.specs.IndexReading.{rows_fault, rows_in, rows_width_in}
use Rattle.block_model.specs.Order.{is_from}
use Rattle.table_file.specs.BeforeLast.{passes}
use Rattle.table_file.specs.BlockRows.{StandFrom, rows_seen}
use Rattle.table_file.proofs.index.read_rows.Given as goal

abbrev pub invariant-loop-i : goal.invariant-loop-i
invariant-loop-i l = record {
  within : l.at ≤ length l.bytes;
  same : rows_fault l.count l.place (is_from l.least) l.bytes ≡ rows_fault (l.count - l.i) (l.place + l.at) (passes l.before) (drop l.at l.bytes);
  read : rows_in l.count l.bytes ≡ rows_seen l.rows.items ++ rows_in (l.count - l.i) (drop l.at l.bytes);
  width : rows_width_in l.count l.bytes ≡ l.at + rows_width_in (l.count - l.i) (drop l.at l.bytes);
  pages : l.first ≡ row_pages (rows_seen l.rows.items);
  stand : StandFrom 0 l.rows.items;
  few : l.first ≤ 257 * l.i;
}
