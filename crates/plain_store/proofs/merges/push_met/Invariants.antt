use Rattle.std.proofs.Common.{◌≡◌, ◌++◌, filter, drop}
use Rattle.state_model.specs.Merges.{reaches_into}
use Rattle.plain_store.proofs.merges.push_met.Given as goal

-- those so far and those among what is left
abbrev pub invariant-loop-table : goal.invariant-loop-table
invariant-loop-table l = l.list.items ++ filter (reaches_into l.chosen) (drop l.table-index l.tables) ≡ l.initial.list.items ++ filter (reaches_into l.chosen) l.tables
