-- A list of truth values packed into numbers of `width` bits each, the lowest bit first.
use Rattle.std.specs.Prelude.{ℕ, ◌*◌, ◌/◌, ◌%◌, ◌==◌, Bool, List, length, take, drop, map, slice_index}
use Rattle.std.specs.Int.{bit_at, div_ceil}
use Rattle.std.specs.List.{range_with_len}
use Rattle.std.specs.Simd.Lanes.{mask_l}

-- the number that a list of bits spells: bit i has the value 2 ^ i
abbrev pub number_of : List Bool → ℕ
number_of bits = mask_l bits

-- how many numbers of `width` bits hold these bits
abbrev pub numbers_for : ℕ → List Bool → ℕ
numbers_for width bits = div_ceil (length bits) width

-- the numbers that hold these bits: number k has those from place `width * k` on, with zero bits where the list ends
unfoldable pub packed : ℕ → List Bool → List ℕ
packed width bits = map (λ k. number_of (take width (drop (width * k) bits))) (range_with_len 0 (numbers_for width bits))

-- bit i of such numbers: bit `i mod width` of number `i / width`
abbrev pub packed_bit : ℕ → List ℕ → ℕ → Bool
packed_bit width numbers i = bit_at (slice_index numbers (i / width)) (i % width) == 1

-- the first `count` bits of such numbers
unfoldable pub unpacked : ℕ → List ℕ → ℕ → List Bool
unpacked width numbers count = map (packed_bit width numbers) (range_with_len 0 count)
