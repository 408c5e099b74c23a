-- Counts of set bits kept at every block.
use Rattle.std.specs.Prelude.{ℕ, ◌+◌, ◌*◌, ◌/◌, Bool, List, length, map}
use Rattle.std.specs.List.{range_with_len}
use Rattle.bit_words.specs.Counts.{rank_of}

-- the set bits before each block of `size` bits, and before the part behind the last whole one
unfoldable pub block_ranks : ℕ → List Bool → List ℕ
block_ranks size bits = map (λ k. rank_of bits (size * k)) (range_with_len 0 (length bits / size + 1))
