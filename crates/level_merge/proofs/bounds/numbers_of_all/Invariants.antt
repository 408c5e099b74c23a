use Rattle.std.proofs.Common.{◌≡◌, ◌++◌, ◌+◌, ◌≤◌, length}
use Rattle.level_merge.specs.JobValue.{all_numbers}
use Rattle.level_merge.proofs.bounds.numbers_of_all.Given as goal

-- those so far, and those of what is left
abbrev pub invariant-loop-left : goal.invariant-loop-left
invariant-loop-left l = record {
  all : l.which.items ++ all_numbers l.left ≡ all_numbers l.many;
  within : length l.which.items + l.left ≤ l.many;
}

abbrev pub decreases-loop-left : goal.decreases-loop-left
decreases-loop-left l = l.left
