-- The bytes that spell a leaf list plainly.
use Rattle.std.specs.Prelude.{ℕ, cond, List, ◌∷◌, ◌++◌, length, flat_map}
use Rattle.byteorder.specs.Endian.{little_bytes}
use Rattle.filter_model.specs.Leaves.{Leaf}

-- the length of the stub, the stub, whether it ends, hash and real
abbrev pub leaf_bytes : Leaf → List ℕ
leaf_bytes l =
    little_bytes 2 (length l.stub) ++ (l.stub ++ (cond l.ends 1 0 ∷ (little_bytes 4 l.hash ++ little_bytes 4 l.real)))

-- SURP, the widths, how many leaves, and the leaves; no cutoff is kept
abbrev pub plain_spelling : ℕ → ℕ → ℕ → List Leaf → List ℕ
plain_spelling hash_bits real_bits cutoff leaves =
    83 ∷ 85 ∷ 82 ∷ 80 ∷ hash_bits ∷ real_bits ∷ (little_bytes 4 (length leaves) ++ flat_map leaf_bytes leaves)
