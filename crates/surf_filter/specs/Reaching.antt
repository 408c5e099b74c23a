-- Whether the suffix of a leaf is a key's.
use Rattle.std.specs.Prelude.{ℕ, ◌==◌, Bool, ◌&&◌, List, map, get_or, drop}
use Rattle.filter_model.specs.Image.{in_slots}
use Rattle.filter_model.specs.Leaves.{Leaf, hash_bits_of}
use Rattle.filter_model.specs.Strings.{bits}
use Rattle.suffix_bits.specs.Slots.{Suffix, leaf_suffix}

-- the suffix of the leaf of a slot
abbrev pub suffix_of_slot : List Leaf → ℕ → Suffix
suffix_of_slot ls slot = get_or (map leaf_suffix (in_slots ls)) slot (0, 0)

-- it is that of a key with such a stub
abbrev pub has_suffix : ℕ → ℕ → List Leaf → List ℕ → ℕ → ℕ → Bool
has_suffix hash_bits real_bits ls key slot stub =
    (bits real_bits (drop stub key) == (suffix_of_slot ls slot).1) && (hash_bits_of hash_bits key == (suffix_of_slot ls slot).0)
