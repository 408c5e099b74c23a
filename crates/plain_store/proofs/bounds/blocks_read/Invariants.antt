use Rattle.std.proofs.Common.{◌≡◌, ◌+◌, drop, count_by}
use Rattle.state_model.specs.Bounds as model
use Rattle.plain_store.proofs.bounds.blocks_read.Given as goal

-- those so far and those among what is left
abbrev pub invariant-loop-table : goal.invariant-loop-table
invariant-loop-table g l = l.count + count_by (model.is_searched l.key) (drop l.table-index l.table-items) ≡ count_by (model.is_searched l.key) l.table-items
