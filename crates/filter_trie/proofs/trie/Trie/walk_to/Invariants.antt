use Rattle.std.proofs.Common.{take}
use Rattle.filter_trie.specs.Walks.{IsNodeAt}
use Rattle.filter_trie.proofs.trie.Trie.walk_to.Given as goal

-- the node is the prefix of the key that was read
abbrev pub invariant-loop-i : goal.invariant-loop-i
invariant-loop-i g l = IsNodeAt l.fn.self.leaves l.node (take l.i l.key)
