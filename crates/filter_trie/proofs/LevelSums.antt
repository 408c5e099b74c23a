-- The sums of a level grow by a node.
use Rattle.std.proofs.Common.{◌≡◌, ℕ, ◌+◌, Bool, true, List, [], ◌∷◌, ◌++◌, length, arith}
use Rattle.std.proofs.lemmas.Grind.{common_steps}
use Rattle.bit_words.specs.Counts.{is_set_at, rank_of}

-- the set bit that a node adds says its sum, and those before say theirs
pub sums_grow : (f : ℕ → ℕ) (bits : List Bool) (first base node p : ℕ)
    → ((q : ℕ) → is_set_at bits q ≡ true → q + base ≡ rank_of bits q + f (first + rank_of bits q))
    → length bits + base ≡ rank_of bits (length bits) + f node → first + rank_of bits (length bits) ≡ node
    → is_set_at (bits ++ true ∷ []) p ≡ true → p + base ≡ rank_of (bits ++ true ∷ []) p + f (first + rank_of (bits ++ true ∷ []) p)
sums_grow f bits first base node p each last number set = grind (arith, common_steps)
