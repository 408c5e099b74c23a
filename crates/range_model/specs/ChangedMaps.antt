-- The map that changes make.
use Rattle.std.specs.Prelude.{List, [], fold}
use Rattle.map_model.specs.SortedMap.{Map}
use Rattle.entry_model.specs.Entries.{changed}
use Rattle.range_model.specs.Clearing.{clear}
use Rattle.range_model.specs.Sources.{Change, Sets, Clears}

-- a change made to a map: nothing where the bounds of a range are crossed
abbrev pub map_changed_by : Map → Change → Map
map_changed_by map (Sets entry) = changed map entry
map_changed_by map (Clears range) = clear map range.lo range.hi

-- the map that changes make, the first of them first
abbrev pub map_of_changes : List Change → Map
map_of_changes changes = fold map_changed_by [] changes
