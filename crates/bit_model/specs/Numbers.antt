-- Numbers in a list of truth values, the lowest bit first.
use Rattle.std.specs.Prelude.{ℕ, ◌==◌, Bool, List, map, take, drop}
use Rattle.std.specs.Int.{bit_at}
use Rattle.std.specs.List.{range_with_len}
use Rattle.bit_model.specs.Packed.{number_of}

-- the lowest `count` bits of a number
unfoldable pub bits_of : ℕ → ℕ → List Bool
bits_of count number = map (λ i. bit_at number i == 1) (range_with_len 0 count)

-- the number that the `count` bits from place i on spell
abbrev pub number_at : List Bool → ℕ → ℕ → ℕ
number_at bits i count = number_of (take count (drop i bits))
