-- The suffix of a leaf, and the bits that suffixes pack to.
use Rattle.std.specs.Prelude.{ℕ, ◌+◌, ◌*◌, ◌/◌, ◌%◌, ◌^◌, Bool, List, flat_map}
use Rattle.bit_model.specs.Numbers.{bits_of}
use Rattle.filter_model.specs.Leaves.{Leaf}

-- a suffix: its hash bits, and its real bits
abbrev pub Suffix : Type 0
Suffix = ℕ × ℕ

-- the suffix of a leaf
abbrev pub leaf_suffix : Leaf → Suffix
leaf_suffix l = (l.hash, l.real)

-- the number of a suffix has the real bits above the hash bits
abbrev pub suffix_number : ℕ → Suffix → ℕ
suffix_number hash_bits s = s.0 + 2 ^ hash_bits * s.1

-- the suffix of a number
abbrev pub suffix_in : ℕ → ℕ → Suffix
suffix_in hash_bits number = (number % 2 ^ hash_bits, number / 2 ^ hash_bits)

-- the bits of suffixes one after the other, each the lowest first
unfoldable pub packed_suffixes : ℕ → ℕ → List Suffix → List Bool
packed_suffixes hash_bits real_bits suffixes = flat_map (λ (s : Suffix). bits_of (hash_bits + real_bits) (suffix_number hash_bits s)) suffixes
