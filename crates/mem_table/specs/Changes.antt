-- What a table is filled with: changes, of which some may clear a range.
use Rattle.std.specs.Prelude.{Bool, false, true, List, [], ◌∷◌}
use Rattle.entry_model.specs.Entries.{Entry}
use Rattle.range_model.specs.Sources.{Change, Sets, Clears}

-- the entries that they set
abbrev pub entries_set : List Change → List Entry
entries_set [] = []
entries_set (Sets entry ∷ later) = entry ∷ entries_set later
entries_set (Clears range ∷ later) = entries_set later

-- one of them clears a range
abbrev pub clears_one : List Change → Bool
clears_one [] = false
clears_one (Sets entry ∷ later) = clears_one later
clears_one (Clears range ∷ later) = true
