-- Bits in room that was made before.
use Rattle.std.specs.Prelude.{ℕ, Bool, List, ◌++◌}

-- the bits so far, and how many there may be
pub record BitsInRoom : Type 0 where
  pub bits : List Bool
  pub limit : ℕ

-- these bits behind them
abbrev pub with_bits : List Bool → BitsInRoom → BitsInRoom
with_bits more room = record room { bits = room.bits ++ more }
