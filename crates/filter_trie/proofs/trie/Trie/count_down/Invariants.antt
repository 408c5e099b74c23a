use Rattle.std.specs.Prelude.{◌≡◌, ◌+◌, ◌-◌, ◌*◌, ◌≤◌, length}
use Rattle.filter_model.specs.Trie.{height, nodes}
use Rattle.filter_trie.specs.LevelStarts.{slots_down}
use Rattle.filter_trie.specs.Places.{trie}
use Rattle.filter_trie.proofs.trie.Trie.count_down.Given as goal

-- what was counted, and what is still to be counted from the node on
abbrev pub invariant-loop : goal.invariant-loop
invariant-loop g l =
    (l.counter ≤ height l.fn.self.leaves) × (l.at ≤ length (nodes l.fn.self.leaves)) × (l.sum ≤ l.counter * 4294967296)
    × (l.sum + slots_down (trie l.fn.self) (height l.fn.self.leaves - l.counter) l.at ≡ slots_down (trie l.fn.self) (height l.fn.self.leaves - l.fn.level) l.fn.node)
