-- The changes of a log: what each has in its record, its bytes, and how much of the log area they fill.
use Rattle.std.specs.Prelude.{ℕ, ◌+◌, ◌==◌, List, ◌∷◌, map, take, drop, if◌then◌else◌}
use Rattle.map_model.specs.SortedMap.{Bytes}
use Rattle.entry_model.specs.Entries.{Entry, IsLogged, body, entry_head_bytes, filled, gap, need, put_entry}
use Rattle.entry_model.specs.Reading.{entry_in, key_in, key_length_in, kind_in, value_length_in}
use Rattle.range_model.specs.Ranges.{DeletedRange, HasBounds, IsDeletedRange, range_of}
use Rattle.range_model.specs.Sources.{Change, Sets, Clears}

-- what a change has in its record as key and value: a range has its bounds
abbrev pub recorded : Change → Entry
recorded (Sets entry) = entry
recorded (Clears range) = put_entry range.lo range.hi

-- the bytes of the log area before the next gate
abbrev pub filled_by : List Change → ℕ
filled_by log = filled (map recorded log)

-- the room that the record of a change takes, and the room that a log leaves
abbrev pub need_of : Change → ℕ
need_of change = need (recorded change)

abbrev pub gap_after : List Change → ℕ
gap_after log = gap (map recorded log)

-- a change that the log takes: an entry but for a long value, or a range between two keys that rise
abbrev pub IsLoggedChange : Change → Type 0
IsLoggedChange (Sets entry) = IsLogged entry
IsLoggedChange (Clears range) = IsDeletedRange range × HasBounds range

-- ---- bytes

-- the kind of a range's record; those of entries are 1 and 2
abbrev pub range_kind : ℕ
range_kind = 3

-- what follows a record's gate: of a range what follows it of a put with its bounds, but for the kind
abbrev pub change_body : Change → Bytes
change_body (Sets entry) = body entry
change_body (Clears range) = range_kind ∷ drop 1 (body (put_entry range.lo range.hi))

-- a record is an open gate and a body
abbrev pub change_record : Change → Bytes
change_record change = 1 ∷ change_body change

-- ---- what is read of bytes that begin with a body

unfoldable pub range_in : Bytes → DeletedRange
range_in rest = range_of (key_in rest) (take (value_length_in rest) (drop (entry_head_bytes + key_length_in rest) rest))

abbrev pub change_in : Bytes → Change
change_in rest = if kind_in rest == range_kind then Clears (range_in rest) else Sets (entry_in rest)
