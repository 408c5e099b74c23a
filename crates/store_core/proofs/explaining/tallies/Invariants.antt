use Rattle.std.proofs.Common.{◌≡◌, ◌+◌, ◌*◌, ◌^◌, ◌≤◌, drop, sum_by}
use Rattle.store_core.specs.Telling.{tally_of}
use Rattle.store_core.proofs.explaining.tallies.Given as goal

-- what was counted so far and what is counted of those that are left
abbrev pub invariant-loop-table : goal.invariant-loop-table
invariant-loop-table g l = (l.about + sum_by (tally_of l.low l.high) (drop l.table-index l.tables) ≡ sum_by (tally_of l.low l.high) l.tables) × (l.about ≤ 2 ^ 32 * l.table-index)
