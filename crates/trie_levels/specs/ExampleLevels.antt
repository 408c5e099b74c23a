-- Lists by which the counts are shown.
use Rattle.std.specs.Prelude.{ℕ, List, [], ◌∷◌}

abbrev pub levels_0_to_2 : List ℕ
levels_0_to_2 = 0 ∷ 1 ∷ 2 ∷ []

-- 62 FF FF 78 and 62 FF FF 79
abbrev pub ending_in_x_y : List (List ℕ)
ending_in_x_y = (0x62 ∷ 0xFF ∷ 0xFF ∷ 0x78 ∷ []) ∷ (0x62 ∷ 0xFF ∷ 0xFF ∷ 0x79 ∷ []) ∷ []
