use Rattle.std.proofs.Common.{◌≡◌, ◌++◌, map, drop}
use Rattle.state_model.specs.Taken.{extent_of}
use Rattle.plain_store.proofs.placing.taken_beside.Given as goal

-- those so far and those that are left
abbrev pub invariant-loop-table : goal.invariant-loop-table
invariant-loop-table l = l.list.items ++ map extent_of (drop l.table-index l.written) ≡ map extent_of l.state.tables ++ map extent_of l.written
