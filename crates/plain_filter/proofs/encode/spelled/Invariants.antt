use Rattle.std.proofs.Common.{◌≡◌, ◌∷◌, ◌++◌, length, take}
use Rattle.std.specs.Prelude.{flat_map}
use Rattle.byteorder.specs.Endian.{little_bytes}
use Rattle.plain_filter_model.specs.Spelling.{leaf_bytes}
use Rattle.plain_filter.proofs.encode.spelled.Given as goal

-- the head, and the leaves passed
abbrev pub invariant-loop-i : goal.invariant-loop-i
invariant-loop-i l =
    l.bytes.items ≡ 83 ∷ 85 ∷ 82 ∷ 80 ∷ l.hash_bits ∷ l.real_bits ∷ (little_bytes 4 (length l.leaves) ++ flat_map leaf_bytes (take l.i l.leaves))
