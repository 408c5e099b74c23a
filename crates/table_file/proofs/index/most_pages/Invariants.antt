use Rattle.std.proofs.Common.{◌≡◌, drop}
use Rattle.std.specs.Prelude.{max}
use Rattle.table_file.specs.BlockRows.{rows_seen}
use Rattle.table_file.specs.Walks.{most_block_pages}
use Rattle.table_file.proofs.index.most_pages.Given as goal

-- the most so far and of the rows that are left are the most of all
abbrev pub invariant-loop-row : goal.invariant-loop-row
invariant-loop-row l = max l.most (most_block_pages (rows_seen (drop l.row-index l.rows))) ≡ most_block_pages (rows_seen l.rows)
