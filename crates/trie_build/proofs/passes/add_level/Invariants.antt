use Rattle.std.proofs.Common.{◌≡◌, ◌+◌, List, drop}
use Rattle.filter_model.specs.Leaves.{Leaf}
use Rattle.trie_build.specs.Building.{MayGrow}
use Rattle.trie_build.proofs.OneSpan.{IsUnderWay}
use Rattle.trie_build.proofs.passes.add_level.Given as goal

-- the nodes so far, and those of the paths to come
abbrev pub invariant-loop-i : goal.invariant-loop-i
invariant-loop-i g l =
    ((ls : List Leaf) → MayGrow l.keys ls l.level (l.level + 1) (g.H.GrowingHalf.half l.initial.half) g.H.GrowingHalf.size (g.H.GrowingHalf.limit l.initial.half) l.spans
    → IsUnderWay ls l.level (g.H.GrowingHalf.half l.initial.half).before (g.H.GrowingHalf.half l.half).nodes l.node (drop l.i l.spans))
    × ((g.H.GrowingHalf.half l.half).before ≡ (g.H.GrowingHalf.half l.initial.half).before)
    × (g.H.GrowingHalf.limit l.half ≡ g.H.GrowingHalf.limit l.initial.half)
