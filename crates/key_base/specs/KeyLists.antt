-- Keys in one piece of memory.
use Rattle.std.specs.Prelude.{◌≡◌, ◌≤◌, ℕ, List, [], ◌∷◌, slice_range}

-- the keys that lie there, each from where the one before it ends; the first begins at a place
abbrev pub keys_in : ℕ → List ℕ → List ℕ → List (List ℕ)
keys_in from [] bytes = []
keys_in from (end ∷ later) bytes = slice_range bytes from end ∷ keys_in end later bytes

-- the ends of keys that lie from a place to another one
abbrev pub AreEnds : ℕ → List ℕ → ℕ → Type 0
AreEnds from [] last = from ≡ last
AreEnds from (end ∷ later) last = (from ≤ end) × AreEnds end later last
