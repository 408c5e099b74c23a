-- Suffixes in room that was made before.
use Rattle.std.specs.Prelude.{ℕ}
use Rattle.suffix_bits.specs.Slots.{SuffixArray}

-- the array so far, and how many suffixes there may be
pub record SuffixesInRoom : Type 0 where
  pub array : SuffixArray
  pub limit : ℕ
