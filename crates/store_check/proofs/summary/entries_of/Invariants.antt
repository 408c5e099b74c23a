use Rattle.std.proofs.Common.{◌≡◌, ◌≤◌, ◌*◌, take}
use Rattle.std.specs.List.{sum_by}
use Rattle.store_check.specs.Summaries.{row_entries}
use Rattle.store_check.proofs.summary.entries_of.Given as goal

abbrev pub invariant-loop-row : goal.invariant-loop-row
invariant-loop-row l = record {
  sum : l.entries ≡ sum_by row_entries (take l.row-index l.rows);
  most : l.entries ≤ 4294967296 * l.row-index;
}
