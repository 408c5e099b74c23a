-- First and last places.
use Rattle.std.specs.Prelude.{◌≡◌, ◌≤◌, ◌<◌, ◌+◌, ◌/◌, ◌%◌, ◌^◌, ◌==◌, ℕ, Bool, true, List, nat_le, slice_index}
use Rattle.std.specs.Int.{bit_at}
use Rattle.std.specs.Slice.Scan.{HoldsNowhere}

-- the byte at a place is the label
abbrev pub is_label_at : List ℕ → ℕ → ℕ → Bool
is_label_at section label place = slice_index section place == label

-- the byte at a place is the label or more
abbrev pub is_least_at : List ℕ → ℕ → ℕ → Bool
is_least_at section label place = nat_le label (slice_index section place)

-- the bit at a place of words is set: bit `place mod 64` of word `place / 64`
abbrev pub is_one_at : List ℕ → ℕ → Bool
is_one_at words place = bit_at (slice_index words (place / 64)) (place % 64) == 1

-- `place` is the first from `start` on and before `end` that passes the test
pub record IsFirstBetween (test : ℕ → Bool) (start end place : ℕ) : Type 0 where
  pub from : start ≤ place
  pub below : place < end
  pub passes : test place ≡ true
  pub before : HoldsNowhere test start place

-- `place` is the last from `start` on and before `end` that passes the test
pub record IsLastBetween (test : ℕ → Bool) (start end place : ℕ) : Type 0 where
  pub from : start ≤ place
  pub below : place < end
  pub passes : test place ≡ true
  pub behind : HoldsNowhere test (place + 1) end

-- bit j of `marks` tells whether place `at + j` passes the test, for each of the `count` places from `at` on
pub record AreMarks (test : ℕ → Bool) (at count marks : ℕ) : Type 0 where
  pub each : (j : ℕ) → j < count → (bit_at marks j == 1) ≡ test (at + j)
  pub low : marks < 2 ^ count
