use Rattle.std.proofs.Common.{◌≡◌, ◌++◌, drop}
use Rattle.plain_store.proofs.lists.push_tables.Given as goal

-- what is copied and what is left
abbrev pub invariant-loop-table : goal.invariant-loop-table
invariant-loop-table l = l.list.items ++ drop l.table-index l.tables ≡ l.initial.list.items ++ l.tables
