-- The suffixes of a filter's leaves by slot, read of the bits that they pack to.
use Rattle.std.specs.Prelude.{ℕ, ◌+◌, ◌*◌, ◌<◌, ◌^◌, Bool, List, [], ◌∷◌, ◌++◌, map}
use Rattle.std.specs.List.{range_with_len}
use Rattle.bit_model.specs.Numbers.{number_at}
pub use Rattle.filter_model.specs.Suffixes.{Suffix, leaf_suffix, suffix_in, suffix_number}
unfoldable pub use Rattle.filter_model.specs.Suffixes.{packed_suffixes}

-- each is of its width
abbrev pub IsOfWidths : ℕ → ℕ → Suffix → Type 0
IsOfWidths hash_bits real_bits s = (s.0 < 2 ^ hash_bits) × (s.1 < 2 ^ real_bits)

-- the first `count` suffixes that such bits spell
unfoldable pub unpacked_suffixes : ℕ → ℕ → List Bool → ℕ → List Suffix
unpacked_suffixes hash_bits real_bits bits count =
    let width = hash_bits + real_bits in
    map (λ slot. suffix_in hash_bits (number_at bits (width * slot) width)) (range_with_len 0 count)

-- an array of suffixes: the two widths, and the suffix of each slot
pub record SuffixArray : Type 0 where
  pub hash_bits : ℕ
  pub real_bits : ℕ
  pub slots : List Suffix

-- one suffix more
abbrev pub with_suffix : Suffix → SuffixArray → SuffixArray
with_suffix s array = record array { slots = array.slots ++ s ∷ [] }

-- the bits of an array
abbrev pub array_bits : SuffixArray → List Bool
array_bits array = packed_suffixes array.hash_bits array.real_bits array.slots
