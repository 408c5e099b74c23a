use Rattle.std.proofs.Common.{◌≡◌, drop}
use Rattle.filter_trie.proofs.OneSpan.{IsUnderWay}
use Rattle.filter_trie.proofs.build_level.add_level.Given as goal

-- the nodes so far, and those of the paths to come
abbrev pub invariant-loop-i : goal.invariant-loop-i
invariant-loop-i g l =
    IsUnderWay l.keys l.level (g.H.GrowingHalf.half l.initial.half).before (g.H.GrowingHalf.half l.half).nodes l.node (drop l.i l.spans)
    × ((g.H.GrowingHalf.half l.half).before ≡ (g.H.GrowingHalf.half l.initial.half).before)
    × (g.H.GrowingHalf.limit l.half ≡ g.H.GrowingHalf.limit l.initial.half)
