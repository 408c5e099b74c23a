use Rattle.std.specs.Prelude.{◌≡◌, take}
use Rattle.filter_trie.specs.Walks.{IsNodeAt}
use Rattle.filter_iter.proofs.between.range.Given as goal

-- the bytes read so far are those of both bounds, and lead to the node
abbrev pub invariant-loop-i : goal.invariant-loop-i
invariant-loop-i g l = IsNodeAt l.fn.trie.leaves l.node (take l.i l.lo) × (take l.i l.lo ≡ take l.i l.hi)
