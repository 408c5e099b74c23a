use Rattle.std.specs.Prelude.{◌≡◌, ◌+◌, ◌-◌, ◌*◌, ◌≤◌, length}
use Rattle.filter_model.specs.Trie.{height, nodes}
use Rattle.filter_trie.specs.LevelStarts.{slots_down}
use Rattle.filter_trie.specs.Places.{trie}
use Rattle.filter_trie.proofs.trie.Trie.leaves_between.Given as goal

-- what stands between the two nodes is what was counted, and what stands between the two places at hand
abbrev pub invariant-loop : goal.invariant-loop
invariant-loop g l =
    (l.counter ≤ height l.fn.self.leaves) × (l.low ≤ length (nodes l.fn.self.leaves)) × (l.high ≤ length (nodes l.fn.self.leaves)) × (l.gap ≤ l.counter * 4294967296)
    × (slots_down (trie l.fn.self) (height l.fn.self.leaves - l.fn.level) l.fn.later + slots_down (trie l.fn.self) (height l.fn.self.leaves - l.counter) l.low
    ≡ slots_down (trie l.fn.self) (height l.fn.self.leaves - l.fn.level) l.fn.node + (l.gap + slots_down (trie l.fn.self) (height l.fn.self.leaves - l.counter) l.high))
