use Rattle.std.proofs.Common.{◌≡◌, ◌+◌, drop, sum_by}
use Rattle.plain_store.proofs.merges.pages_of.Given as goal

-- the pages so far and those that are left
abbrev pub invariant-loop-table : goal.invariant-loop-table
invariant-loop-table l = l.pages + sum_by (λ t. t.pages) (drop l.table-index l.tables) ≡ sum_by (λ t. t.pages) l.tables
