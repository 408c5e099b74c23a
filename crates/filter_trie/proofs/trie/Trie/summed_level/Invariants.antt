use Rattle.std.specs.Prelude.{◌≤◌, length}
use Rattle.filter_model.specs.Trie.{nodes}
use Rattle.filter_trie.proofs.trie.Trie.summed_level.Given as goal

-- the node is one of the trie, or the one behind the last
abbrev pub invariant-loop-level : goal.invariant-loop-level
invariant-loop-level g l = l.node ≤ length (nodes l.fn.self.leaves)
