-- Walks by which the definitions are shown: the second of three sleeps until "c".
use Rattle.std.specs.Prelude.{ℕ, List, [], ◌∷◌, Option, Some, None, codes}
use Rattle.map_model.specs.SortedMap.{Bytes}
use Rattle.merge_rows.specs.Merges.{TableWalk}

abbrev pub walk_of : ℕ → TableWalk
walk_of number = record { number = number; walk = record { room = 1; bound = Some []; block = 0; now = None; later = [] } }

abbrev pub three_walks : List TableWalk
three_walks = walk_of 2 ∷ walk_of 1 ∷ walk_of 0 ∷ []

abbrev pub until_c : List (Option Bytes)
until_c = None ∷ Some (codes "c") ∷ None ∷ []
