use Rattle.std.specs.Prelude.{◌≡◌, ◌≤◌, ◌+◌, ◌-◌, ℕ, true, length}
use Rattle.bit_words.specs.Counts.{is_set_at, rank_of}
use Rattle.filter_model.specs.Trie.{height, nodes}
use Rattle.filter_trie.specs.LevelStarts.{slots_down}
use Rattle.filter_trie.specs.Places.{trie}
use Rattle.filter_trie.proofs.trie.Trie.sums_of.Given as goal

-- each node before the next has its set bit, and each leaf that was passed a clear one
abbrev pub invariant-loop-node : goal.invariant-loop-node
invariant-loop-node g l =
    (l.fn.level.first + rank_of l.bits.bits (length l.bits.bits) ≡ l.node) × (l.before ≤ length (nodes l.fn.self.leaves))
    × (length l.bits.bits + slots_down (trie l.fn.self) (height l.fn.self.leaves - l.fn.level.number) l.fn.level.first
    ≡ rank_of l.bits.bits (length l.bits.bits) + slots_down (trie l.fn.self) (height l.fn.self.leaves - l.fn.level.number) l.before)
    × (length l.bits.bits ≤ l.bits.limit) × (l.bits.limit ≡ l.fn.level.room)
    × ((p : ℕ) → is_set_at l.bits.bits p ≡ true
    → p + slots_down (trie l.fn.self) (height l.fn.self.leaves - l.fn.level.number) l.fn.level.first
    ≡ rank_of l.bits.bits p + slots_down (trie l.fn.self) (height l.fn.self.leaves - l.fn.level.number) (l.fn.level.first + rank_of l.bits.bits p))
