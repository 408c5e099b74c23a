use Rattle.std.proofs.Common.{◌≡◌, ◌≤◌, ◌+◌, drop}
use Rattle.std.specs.Prelude.{sum_by}
use Rattle.level_merge.specs.Outlines.{outlines}
use Rattle.state_model.specs.Merges.{on_level}
use Rattle.level_merge.proofs.choosing.is_over.Given as goal

-- the pages so far and those that are left, and that they are not too many yet
abbrev pub invariant-loop-table : goal.invariant-loop-table
invariant-loop-table g l = record {
  all : l.pages + sum_by (λ t. t.pages) (on_level l.level (outlines (drop l.table-index l.tables))) ≡ sum_by (λ t. t.pages) (on_level l.level (outlines l.tables));
  within : l.pages ≤ l.limit;
}
