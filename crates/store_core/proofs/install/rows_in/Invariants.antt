use Rattle.std.proofs.Common.{◌≡◌, ◌≤◌, ◌+◌, ◌-◌, ◌++◌, drop, length, map}
use Rattle.std.specs.Prelude.{vec_capacity, vec_len}
use Rattle.std.specs.List.{AllByRecursion}
use Rattle.filter_api.specs.Ranges.{IsRowInRange}
use Rattle.manifest_model.specs.Laws.{RowFits}
use Rattle.store_core.specs.StoreValue.{rows_of}
use Rattle.store_core.proofs.install.rows_in.Given as goal

-- the rows so far and those of what is left, and room for these
abbrev pub invariant-loop-table : goal.invariant-loop-table
invariant-loop-table g l = record {
  all : l.rows.items ++ rows_of (map (λ t. t.now) (drop l.table-index l.tables)) ≡ rows_of (map (λ t. t.now) l.tables);
  fits : AllByRecursion RowFits l.rows.items;
  range : AllByRecursion IsRowInRange l.rows.items;
  room : vec_len l.rows + (length l.tables - l.table-index) ≤ vec_capacity l.rows;
}
