-- A word of the bits that was read with its count.
use Rattle.std.specs.Prelude.{◌≡◌, ◌*◌, Bool, List, slice_index_or}
use Rattle.bit_rank.specs.declared.word.RankedWord.{RankedWord}
use Rattle.bit_words.specs.Counts.{rank_of}
use Rattle.bit_model.specs.Packed.{packed}

-- the word of its number, and the set bits before it
pub record IsWordOf (bits : List Bool) (w : RankedWord) : Type 0 where
  pub word : w.word ≡ slice_index_or (packed 64 bits) w.number 0
  pub before : w.before ≡ rank_of bits (64 * w.number)
