use Rattle.std.proofs.Common.{◌≡◌, fold, drop}
use Rattle.state_model.specs.Tends as model
use Rattle.plain_store.proofs.installing.with_all.Given as goal

-- what is left goes into the tables so far
abbrev pub invariant-loop-table : goal.invariant-loop-table
invariant-loop-table l = fold model.inserted l.list.items (drop l.table-index l.made) ≡ fold model.inserted l.initial.list.items l.made
