use Rattle.std.proofs.Common.{◌≡◌, ◌++◌, drop}
use Rattle.state_model.specs.Merges.{on_level}
use Rattle.plain_store.proofs.lists.on_level.Given as goal

-- those so far and those among what is left
abbrev pub invariant-loop-table : goal.invariant-loop-table
invariant-loop-table l = l.list.items ++ on_level l.level (drop l.table-index l.tables) ≡ on_level l.level l.tables
