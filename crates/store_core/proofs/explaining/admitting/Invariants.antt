use Rattle.std.proofs.Common.{◌≡◌, ◌+◌, ◌≤◌, drop, count_by}
use Rattle.store_core.specs.Telling.{is_admitting}
use Rattle.store_core.proofs.explaining.admitting.Given as goal

-- those so far and those among what is left
abbrev pub invariant-loop-table : goal.invariant-loop-table
invariant-loop-table g l = (l.count + count_by (is_admitting l.key) (drop l.table-index l.tables) ≡ count_by (is_admitting l.key) l.tables) × (l.count ≤ l.table-index)
