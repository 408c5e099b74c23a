use Rattle.std.proofs.Common.{◌≡◌, ◌+◌, drop, sum_by}
use Rattle.plain_store.proofs.job.blocks_of.Given as goal

-- the blocks so far and those that are left
abbrev pub invariant-loop-table : goal.invariant-loop-table
invariant-loop-table l = l.blocks + sum_by (λ t. t.blocks) (drop l.table-index l.tables) ≡ sum_by (λ t. t.blocks) l.tables
