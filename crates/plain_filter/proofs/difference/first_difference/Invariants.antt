use Rattle.std.specs.Prelude.{◌≡◌, ◌≤◌, length, take}
use Rattle.plain_filter.proofs.difference.first_difference.Given as goal

-- the leaves passed are alike
abbrev pub invariant-loop-i : goal.invariant-loop-i
invariant-loop-i l = (l.i ≤ length l.others) × (take l.i l.leaves ≡ take l.i l.others)
