-- The set bits of words.
use Rattle.std.specs.Prelude.{◌≡◌, ◌<◌, ◌+◌, ℕ, List, length, take, slice_index, count_ones}
use Rattle.std.specs.List.{sum_by}

-- the set bits of the words before place `place`
abbrev pub ones_before : List ℕ → ℕ → ℕ
ones_before words place = sum_by count_ones (take place words)

-- word `place` holds the nth set bit, from 0: the words before it have all but `rest` of n set bits, and it has more than `rest`
pub record IsWordOfOne (words : List ℕ) (n place rest : ℕ) : Type 0 where
  pub within : place < length words
  pub before : ones_before words place + rest ≡ n
  pub inside : rest < count_ones (slice_index words place)
