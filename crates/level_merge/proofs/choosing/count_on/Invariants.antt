use Rattle.std.proofs.Common.{◌≡◌, ◌≤◌, ◌+◌, length, drop}
use Rattle.level_merge.specs.Outlines.{outlines}
use Rattle.state_model.specs.Merges.{on_level}
use Rattle.level_merge.proofs.choosing.count_on.Given as goal

-- those so far and those among what is left, and no more than there were tables
abbrev pub invariant-loop-table : goal.invariant-loop-table
invariant-loop-table g l = record {
  all : l.count + length (on_level l.level (outlines (drop l.table-index l.tables))) ≡ length (on_level l.level (outlines l.tables));
  few : l.count ≤ l.table-index;
}
