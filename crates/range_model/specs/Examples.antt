-- Changes and sources by which the definitions are shown.
use Rattle.std.specs.Prelude.{List, [], ◌∷◌}
use Rattle.map_model.specs.SortedMap.{Map, put}
use Rattle.entry_model.specs.Entries.{put_entry, del_entry}
use Rattle.range_model.specs.Ranges.{range_of}
use Rattle.range_model.specs.Sources.{Change, Sets, Clears, Source, source_of}

-- 61 with 01, 62 with 02, 63 with 03
abbrev pub three : Map
three = put (put (put [] (0x61 ∷ []) (1 ∷ [])) (0x62 ∷ []) (2 ∷ [])) (0x63 ∷ []) (3 ∷ [])

abbrev pub three_puts : List Change
three_puts = Sets (put_entry (0x61 ∷ []) (1 ∷ [])) ∷ Sets (put_entry (0x62 ∷ []) (2 ∷ [])) ∷ Sets (put_entry (0x63 ∷ []) (3 ∷ [])) ∷ []

-- two of them are deleted since, and one is put again
abbrev pub cleared_two : List Change
cleared_two = Clears (range_of (0x61 ∷ []) (0x63 ∷ [])) ∷ []

abbrev pub put_again : List Change
put_again = Sets (put_entry (0x62 ∷ []) (4 ∷ [])) ∷ []

-- these as sources, the newest first
abbrev pub three_sources : List Source
three_sources = source_of put_again ∷ source_of cleared_two ∷ source_of three_puts ∷ []

-- two ranges that touch, a put within the second, and a range over both that ends at its key
abbrev pub touching : List Change
touching =
    Clears (range_of (0x61 ∷ []) (0x63 ∷ []))
    ∷ Clears (range_of (0x63 ∷ []) (0x65 ∷ []))
    ∷ Sets (put_entry (0x64 ∷ []) (1 ∷ []))
    ∷ Clears (range_of (0x62 ∷ []) (0x64 ∷ []))
    ∷ []

abbrev pub touching_source : Source
touching_source = record {
  entries = del_entry (0x61 ∷ []) ∷ del_entry (0x62 ∷ []) ∷ put_entry (0x64 ∷ []) (1 ∷ []) ∷ [];
  ranges = range_of (0x61 ∷ []) (0x65 ∷ []) ∷ [];
}

-- a put, and ranges whose bounds are one key or crossed
abbrev pub crossed : List Change
crossed =
    Sets (put_entry (0x61 ∷ []) (1 ∷ []))
    ∷ Clears (range_of (0x61 ∷ []) (0x61 ∷ []))
    ∷ Clears (range_of (0x62 ∷ []) (0x61 ∷ []))
    ∷ Clears (range_of (0x63 ∷ []) (0x61 ∷ []))
    ∷ Clears (range_of [] [])
    ∷ Clears (range_of (0x61 ∷ []) [])
    ∷ []
