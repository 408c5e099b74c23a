-- Which entries of some sources are hidden by a newer one's ranges, the newest source first.
use Rattle.std.specs.Prelude.{Bool, false, not, ◌||◌, List, [], ◌∷◌, ◌++◌, filter, Option, Some, None}
use Rattle.key_base.specs.ByteOrder.{Bytes}
use Rattle.entry_model.specs.Entries.{Entry}
use Rattle.entry_model.specs.Newest.{lookup}
use Rattle.range_model.specs.Ranges.{covers}
use Rattle.range_model.specs.Sources.{Change, Source, changes_in}

abbrev pub unless_said : Option (Option Bytes) → Bool → Bool
unless_said (Some value) hidden = false
unless_said None hidden = hidden

-- a source covers the key that is newer than the first that has an entry of it
abbrev pub is_hidden : List Source → Bytes → Bool
is_hidden [] key = false
is_hidden (s ∷ older) key = unless_said (lookup s.entries key) (covers s.ranges key || is_hidden older key)

-- their changes, the oldest source first
abbrev pub oldest_changes : List Source → List Change
oldest_changes [] = []
oldest_changes (s ∷ older) = oldest_changes older ++ changes_in s

abbrev pub oldest_entries : List Source → List Entry
oldest_entries [] = []
oldest_entries (s ∷ older) = oldest_entries older ++ s.entries

-- the entries that are not hidden
abbrev pub in_sight : List Source → List Entry → List Entry
in_sight sources entries = filter (λ (e : Entry). not (is_hidden sources e.key)) entries
