use Rattle.std.proofs.Common.{◌≡◌, ◌+◌, take}
use Rattle.filter_trie.specs.Walks.{IsNodeAt}
use Rattle.filter_trie.proofs.trie.Trie.walk_counted.Given as goal

-- the node is the prefix of the key that was read, and there was a step for each byte
abbrev pub invariant-loop-byte : goal.invariant-loop-byte
invariant-loop-byte g l = IsNodeAt l.fn.self.leaves l.node (take l.byte-index l.key) × (l.steps ≡ l.fn.steps + l.byte-index)
