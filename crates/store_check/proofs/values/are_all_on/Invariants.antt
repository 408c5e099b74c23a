use Rattle.std.proofs.Common.{◌≡◌, drop}
use Rattle.store_check.proofs.values.are_all_on.Given as goal
use Rattle.store_check.specs.Values.{all_on}

-- the rows so far are on the level
abbrev pub invariant-loop-row : goal.invariant-loop-row
invariant-loop-row l = record {
  all : all_on l.level (drop l.row-index l.rows) ≡ all_on l.level l.rows;
}
