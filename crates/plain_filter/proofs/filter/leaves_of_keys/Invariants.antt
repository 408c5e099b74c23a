use Rattle.std.proofs.Common.{◌≡◌, map, take}
use Rattle.filter_model.specs.Leaves.{leaf_of}
use Rattle.plain_filter.proofs.filter.leaves_of_keys.Given as goal

-- the leaves of the keys passed
abbrev pub invariant-loop-i : goal.invariant-loop-i
invariant-loop-i l = l.leaves ≡ map (leaf_of l.settings.hash_bits l.settings.real_bits l.keys) (take l.i l.keys)
