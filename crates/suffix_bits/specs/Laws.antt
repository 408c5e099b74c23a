-- What packed suffixes keep.
use Rattle.std.specs.Prelude.{◌≡◌, ◌+◌, ◌*◌, ℕ, Bool, List, length}
use Rattle.std.specs.List.{All}
use Rattle.suffix_bits.specs.Slots.{Suffix, IsOfWidths, packed_suffixes, unpacked_suffixes}

-- suffixes of these widths read back
abbrev pub SuffixesReadBack : Type 0
SuffixesReadBack =
    (hash_bits real_bits : ℕ) (slots : List Suffix) → All (IsOfWidths hash_bits real_bits) slots
    → unpacked_suffixes hash_bits real_bits (packed_suffixes hash_bits real_bits slots) (length slots) ≡ slots

-- bits are packed from what they spell, where they are as many as the suffixes need
abbrev pub SlotBitsReadBack : Type 0
SlotBitsReadBack =
    (hash_bits real_bits : ℕ) (bits : List Bool) (count : ℕ) → length bits ≡ (hash_bits + real_bits) * count
    → packed_suffixes hash_bits real_bits (unpacked_suffixes hash_bits real_bits bits count) ≡ bits
