use Rattle.std.proofs.Common.{◌≡◌, List, length, map}
use Rattle.std.specs.List.{range_with_len}
use Rattle.filter_model.specs.Leaves.{Leaf}
use Rattle.filter_model.specs.Trie.{level as level_of}
use Rattle.trie_levels.specs.Neighbours.{AreCounts, level_branches}
use Rattle.trie_levels.proofs.planning.levels_of.Given as goal

-- the levels passed, and the nodes of the next one
abbrev pub invariant-loop-level : goal.invariant-loop-level
invariant-loop-level l =
    (leaves : List Leaf) → AreCounts leaves l.parted l.ended
    → (l.levels.nodes ≡ map (λ n. length (level_of leaves n)) (range_with_len 0 l.level))
    × (l.levels.labels ≡ map (λ n. length (level_branches leaves n)) (range_with_len 0 l.level))
    × (l.nodes ≡ length (level_of leaves l.level))
