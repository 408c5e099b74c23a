use Rattle.std.proofs.Common.{◌<◌, ℕ}
use Rattle.plain_filter_model.specs.Neighbours.{StandsRightly}
use Rattle.plain_filter.proofs.valid.is_valid.Given as goal

-- the leaves passed stand rightly
abbrev pub invariant-loop-i : goal.invariant-loop-i
invariant-loop-i l = (k : ℕ) → k < l.i → StandsRightly l.hash_bits l.real_bits l.leaves k
