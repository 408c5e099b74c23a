use Rattle.std.specs.Prelude.{◌≡◌, ◌≤◌, ◌+◌, ℕ, true, length}
use Rattle.bit_words.specs.Counts.{is_set_at, rank_of}
use Rattle.filter_trie.proofs.level_sums.push_gap.Given as goal

-- as many clear bits so far, and no set one more
abbrev pub invariant-loop : goal.invariant-loop
invariant-loop g l =
    (l.counter ≤ l.fn.count) × (length l.bits.bits ≡ length l.fn.bits.bits + l.counter) × (l.bits.limit ≡ l.fn.bits.limit)
    × (rank_of l.bits.bits (length l.bits.bits) ≡ rank_of l.fn.bits.bits (length l.fn.bits.bits))
    × ((p : ℕ) → is_set_at l.bits.bits p ≡ true → (is_set_at l.fn.bits.bits p ≡ true) × (rank_of l.bits.bits p ≡ rank_of l.fn.bits.bits p))
