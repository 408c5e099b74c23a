use Rattle.std.proofs.Common.{◌≡◌, ◌++◌, drop}
use Rattle.std.specs.Prelude.{flat_map}
use Rattle.block_model.specs.Index.{index_row_bytes}
use Rattle.table_file.specs.BlockRows.{rows_seen}
use Rattle.table_file.proofs.index.push_rows.Given as goal

-- what is written and the rows that are left make all rows
abbrev pub invariant-loop-row : goal.invariant-loop-row
invariant-loop-row l =
    l.out.items ++ flat_map index_row_bytes (rows_seen (drop l.row-index l.rows)) ≡ l.initial.out.items ++ flat_map index_row_bytes (rows_seen l.rows)
