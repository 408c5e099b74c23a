-- Laws of packing, at every width.
use Rattle.std.specs.Prelude.{◌≡◌, ◌<◌, ◌+◌, ◌*◌, ◌%◌, ◌^◌, ◌++◌, ℕ, Bool, List, length, take, slice_index, count_ones}
use Rattle.std.specs.List.{sum_by}
use Rattle.bit_words.specs.Counts.{rank_of, is_set_at}
use Rattle.bit_model.specs.Packed.{number_of, packed, unpacked, packed_bit, numbers_for}
use Rattle.bit_model.specs.Numbers.{bits_of}

-- what was packed reads back
abbrev pub PackedReadsBack : Type 0
PackedReadsBack = (width : ℕ) (bits : List Bool) → 0 < width → unpacked width (packed width bits) (length bits) ≡ bits

-- bit i of the packing is bit i of the list, and 0 past its end
abbrev pub KeepsPlaces : Type 0
KeepsPlaces = (width : ℕ) (bits : List Bool) (i : ℕ) → 0 < width → packed_bit width (packed width bits) i ≡ is_set_at bits i

-- numbers with these bits at these places are the packing
abbrev pub IsOnly : Type 0
IsOnly =
    (width : ℕ) (bits : List Bool) (numbers : List ℕ) → 0 < width → length numbers ≡ numbers_for width bits
    → ((k : ℕ) → slice_index numbers k < 2 ^ width) → ((i : ℕ) → packed_bit width numbers i ≡ is_set_at bits i)
    → numbers ≡ packed width bits

-- the first k numbers have the set bits at places below `width * k`
abbrev pub KeepsCounts : Type 0
KeepsCounts =
    (width : ℕ) (bits : List Bool) (k : ℕ) → 0 < width
    → sum_by count_ones (take k (packed width bits)) ≡ rank_of bits (width * k)

-- the bits of a number spell what of it is below 2 ^ count
abbrev pub NumberReadsBack : Type 0
NumberReadsBack = (count number : ℕ) → number_of (bits_of count number) ≡ number % 2 ^ count

-- bits are those of the number that they spell
abbrev pub BitsReadBack : Type 0
BitsReadBack = (bits : List Bool) → bits_of (length bits) (number_of bits) ≡ bits

-- two numbers one after the other are one number
abbrev pub NumbersJoin : Type 0
NumbersJoin =
    (low_count high_count low high : ℕ) → low < 2 ^ low_count
    → bits_of low_count low ++ bits_of high_count high ≡ bits_of (low_count + high_count) (low + 2 ^ low_count * high)
