use Rattle.std.proofs.Common.{◌≡◌, ◌++◌, ◌+◌, ◌≤◌, length}
use Rattle.store_check.specs.Summaries.{numbers_below}
use Rattle.store_check.proofs.live.all_numbers.Given as goal

-- those so far, and those of what is left
abbrev pub invariant-loop-left : goal.invariant-loop-left
invariant-loop-left l = record {
  all : l.which.items ++ numbers_below l.left ≡ numbers_below l.many;
  within : length l.which.items + l.left ≤ l.many;
}

abbrev pub decreases-loop-left : goal.decreases-loop-left
decreases-loop-left l = l.left
