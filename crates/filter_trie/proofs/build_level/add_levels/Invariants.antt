use Rattle.std.proofs.Common.{◌≡◌, ◌≤◌}
use Rattle.filter_trie.specs.Building.{half_to}
use Rattle.filter_trie.specs.Pending.{ArePending}
use Rattle.filter_trie.proofs.build_level.add_levels.Given as goal

-- the levels passed
abbrev pub invariant-loop-level : goal.invariant-loop-level
invariant-loop-level g l =
    (g.H.GrowingHalf.half l.half ≡ half_to l.keys l.level (g.H.GrowingHalf.half l.initial.half).before)
    × (g.H.GrowingHalf.limit l.half ≡ g.H.GrowingHalf.limit l.initial.half)
    × ArePending l.keys l.level l.pending
    × (l.pending.hash_bits ≡ l.initial.pending.hash_bits)
    × (l.pending.real_bits ≡ l.initial.pending.real_bits)
    × (l.from ≤ l.level)
