use Rattle.std.proofs.Common.{◌≡◌, ◌≤◌, List}
use Rattle.filter_model.specs.Leaves.{Leaf}
use Rattle.trie_build.specs.Building.{MayGrow, half_to, spans_longer}
use Rattle.trie_build.proofs.passes.add_levels.Given as goal

-- the levels passed
abbrev pub invariant-loop-level : goal.invariant-loop-level
invariant-loop-level g l =
    ((ls : List Leaf) → MayGrow l.keys ls l.from l.to (g.H.GrowingHalf.half l.initial.half) g.H.GrowingHalf.size (g.H.GrowingHalf.limit l.initial.half) l.initial.spans.items
    → (g.H.GrowingHalf.half l.half ≡ half_to ls l.level (g.H.GrowingHalf.half l.initial.half).before) × (l.spans.items ≡ spans_longer ls l.level))
    × (g.H.GrowingHalf.limit l.half ≡ g.H.GrowingHalf.limit l.initial.half)
    × (l.from ≤ l.level)
