use Rattle.std.proofs.Common.{◌≡◌, drop}
use Rattle.std.specs.Prelude.{nat_lt}
use Rattle.std.specs.List.{list_any}
use Rattle.table_file.specs.Opened.{Opened}
use Rattle.level_merge.proofs.bounds.lies_deeper.Given as goal

-- no table so far does
abbrev pub invariant-loop-table : goal.invariant-loop-table
invariant-loop-table g l = list_any (λ (t : Opened). nat_lt l.level t.row.level) (drop l.table-index l.tables) ≡ list_any (λ (t : Opened). nat_lt l.level t.row.level) l.tables
