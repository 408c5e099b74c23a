-- What a state says of a key, and the sorted map that it is.
use Rattle.std.specs.Prelude.{List, ◌∷◌, ◌++◌, map, Option}
use Rattle.map_model.specs.SortedMap.{Bytes, Map}
use Rattle.entry_model.specs.Entries.{Entry}
use Rattle.range_model.specs.Sources.{Change, Source, source_of, first_said}
use Rattle.range_model.specs.ChangedMaps.{map_of_changes}
use Rattle.range_model.specs.Hiding.{oldest_changes}
use Rattle.state_model.specs.State.{State}
use Rattle.table_model.specs.Tables.{Table, as_source}

-- what is in memory: the log's last entry for each key, but for those that a later range of it covers, and its ranges
abbrev pub in_memory : State → Source
in_memory s = source_of s.log

-- the memory entries, by rising keys
abbrev pub memory : State → List Entry
memory s = (in_memory s).entries

-- the tables as sources
abbrev pub sources_of : List Table → List Source
sources_of tables = map as_source tables

-- where a key is looked for, the newest first
abbrev pub sources : State → List Source
sources s = in_memory s ∷ sources_of s.tables

-- what the state says of the key: a value, a tombstone, or nothing
abbrev pub view : State → Bytes → Option (Option Bytes)
view s key = first_said (sources s) key

-- the changes of tables, the oldest first
abbrev pub oldest_first : List Table → List Change
oldest_first tables = oldest_changes (sources_of tables)

-- all changes of the state, the oldest first
abbrev pub changes_of : State → List Change
changes_of s = oldest_first s.tables ++ s.log

-- the sorted map that the state is
abbrev pub state_map : State → Map
state_map s = map_of_changes (changes_of s)
