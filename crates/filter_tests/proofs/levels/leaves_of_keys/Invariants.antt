use Rattle.std.proofs.Common.{◌≡◌, map, take}
use Rattle.filter_model.specs.Leaves.{leaf_of}
use Rattle.filter_tests.proofs.levels.leaves_of_keys.Given as goal

-- the leaves of the keys passed
abbrev pub invariant-loop-i : goal.invariant-loop-i
invariant-loop-i l = l.leaves ≡ map (leaf_of 0 0 l.keys) (take l.i l.keys)
