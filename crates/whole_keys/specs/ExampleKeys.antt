-- Lists of keys by which the definitions are shown.
use Rattle.std.specs.Prelude.{ℕ, Bool, List, [], ◌∷◌, codes, map}
use Rattle.filter_model.specs.Leaves.{Leaf}
use Rattle.whole_keys.specs.Whole.{whole_leaves}

-- zebra alone
abbrev pub zebra : List (List ℕ)
zebra = codes "zebra" ∷ []

-- 61, 61 FF and 61 FF FF
abbrev pub a_ff_ff : List (List ℕ)
a_ff_ff = (0x61 ∷ []) ∷ (0x61 ∷ 0xFF ∷ []) ∷ (0x61 ∷ 0xFF ∷ 0xFF ∷ []) ∷ []

-- FF and FF FF
abbrev pub ff_ff : List (List ℕ)
ff_ff = (0xFF ∷ []) ∷ (0xFF ∷ 0xFF ∷ []) ∷ []

-- which leaves end
abbrev pub endings : List (List ℕ) → List Bool
endings keys = map (λ (l : Leaf). l.ends) (whole_leaves keys)
