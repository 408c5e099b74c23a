use Rattle.std.proofs.Common.{◌≡◌, ◌<◌, ◌==◌, length, take}
use Rattle.std.specs.List.{All}
use Rattle.louds_sparse.specs.Building.{with_branches}
use Rattle.trie_model.specs.Given.{node_given}
use Rattle.trie_model.specs.declared.parts.Branch.{Branch}
use Rattle.louds_sparse.proofs.sections.Sections.push_node.Given as goal

-- the branches so far, whether the next one is the first, and that they are by bytes
abbrev pub invariant-loop-i : goal.invariant-loop-i
invariant-loop-i g l =
    (l.self ≡ with_branches (node_given l.end (take l.i l.branches)) l.fn.self)
    × (l.first ≡ (length (node_given l.end (take l.i l.branches)) == 0))
    × All (λ (b : Branch). b.byte < 256) (take l.i l.branches)
