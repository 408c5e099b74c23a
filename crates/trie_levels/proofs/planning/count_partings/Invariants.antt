use Rattle.std.proofs.Common.{◌≡◌, ◌<◌, ◌+◌, ◌-◌, ℕ, drop, get_or, length}
use Rattle.trie_levels.specs.Neighbours.{partings}
use Rattle.trie_levels.proofs.planning.count_partings.Given as goal

-- what was counted and what is to come are all
abbrev pub invariant-loop-i : goal.invariant-loop-i
invariant-loop-i l =
    (length l.counts.items ≡ l.levels)
    × ((n : ℕ) → n < l.levels → get_or l.counts.items n 0 + partings (drop (l.i - 1) l.leaves) n ≡ partings l.leaves n)
