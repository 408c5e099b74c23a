-- Where the levels of a trie begin.
use Rattle.std.specs.Prelude.{◌≡◌, ℕ, zero, suc, ◌+◌, ◌-◌, ◌<◌, ◌^◌, Bool, true, List, length}
use Rattle.bit_words.specs.Counts.{is_set_at, rank_of}
use Rattle.filter_model.specs.Leaves.{Filter}
use Rattle.filter_model.specs.Nodes.{trie_of}
use Rattle.filter_model.specs.Trie.{height}
use Rattle.trie_model.specs.Halves.{Half, begin_of, first_below, slot_at, whole}

-- how many leaves stand before node v, before the first node below its first branch, and so on, on n levels
abbrev pub slots_down : Half → ℕ → ℕ → ℕ
slots_down h zero v = 0
slots_down h (suc n) v = slot_at h (begin_of h v) + slots_down h n (first_below h (begin_of h v))

-- and before the first node of each level
abbrev pub slots_before_levels : Filter → ℕ
slots_before_levels i = slots_down (whole (trie_of i.leaves)) (height i.leaves) 0

-- the sums of a level whose first node this is: of node first + i the sum is base and the clear bits before set bit i
pub record AreSums (i : Filter) (level first base : ℕ) (places : List Bool) : Type 0 where
  pub room : base + length places < 2 ^ 64
  pub each : (p : ℕ) → is_set_at places p ≡ true
      → p + base ≡ rank_of places p + slots_down (whole (trie_of i.leaves)) (height i.leaves - level) (first + rank_of places p)
