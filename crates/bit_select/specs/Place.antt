-- Places of set bits.
use Rattle.std.specs.Prelude.{◌≡◌, ◌<◌, ◌+◌, ◌*◌, ◌/◌, ◌%◌, ◌^◌, ℕ, Bool, true, List, length, slice_index, count_ones}
use Rattle.std.specs.Int.{div_ceil}
use Rattle.bit_select.specs.declared.selected.Start.{Start}
use Rattle.bit_words.specs.Counts.{rank_of, is_set_at}
use Rattle.lane_scan.specs.Ones.{ones_before}

-- `place` is the nth set bit, from 0: it is set, and n bits are set below it
pub record IsPlaceOfOne (bits : List Bool) (n place : ℕ) : Type 0 where
  pub is_set : is_set_at bits place ≡ true
  pub before : rank_of bits place ≡ n

-- the places of every `step`th set bit among the first `end` bits, from the first on
pub record IsSampled (step : ℕ) (bits : List Bool) (end : ℕ) (samples : List ℕ) : Type 0 where
  pub all : length samples ≡ div_ceil (rank_of bits end) step
  pub each : (k : ℕ) → k < length samples → IsPlaceOfOne bits (step * k) (slice_index samples k)

-- the search for the nth set bit may begin there: at a word that there is, with the bits before it counted off
pub record IsStart (bits : List Bool) (n : ℕ) (s : Start) : Type 0 where
  pub there : 64 * s.word < length bits
  pub rank : rank_of bits (64 * s.word) + s.number ≡ n

-- the set bits of words before a place
abbrev pub ones_to : List ℕ → ℕ → ℕ
ones_to words place = ones_before words (place / 64) + count_ones (slice_index words (place / 64) % 2 ^ (place % 64))
