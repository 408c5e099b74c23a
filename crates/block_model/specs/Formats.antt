-- The two formats of a block, and what is read of an entry in each. Old blocks spell each key whole; blocks with shared
-- prefixes spell of a key only what it has beyond the key before.
use Rattle.std.specs.Prelude.{ℕ, zero, suc, ◌+◌, ◌/◌, ◌*◌, ◌%◌, ◌==◌, Bool, List, [], ◌∷◌, ◌++◌, take, drop, slice_index, Option, Some, None, if◌then◌else◌}
use Rattle.byteorder.specs.Endian.{little_number}
use Rattle.key_base.specs.Limits.{max_logged_value_bytes, max_value_bytes, restart_entries}
use Rattle.key_base.specs.Prefixes.{alike}
use Rattle.map_model.specs.SortedMap.{Bytes}
use Rattle.entry_model.specs.Entries.{Entry, entry_of}
use Rattle.entry_model.specs.Reading.{kind_in}

pub data Format : Type 0 where
  Old : Format
  Prefixed : Format

-- byte 5 of a block says its format
abbrev pub format_in : Bytes → Format
format_in bytes = if slice_index bytes 5 == 2 then Prefixed else Old

abbrev pub format_byte : Format → ℕ
format_byte Old = 0
format_byte Prefixed = 2

-- the header: the length that is used, how many entries, and the format in three bytes
abbrev pub header_widths : List ℕ
header_widths = 4 ∷ 1 ∷ 3 ∷ []

-- the bytes of the longest value
abbrev pub most_value : Format → ℕ
most_value Old = max_logged_value_bytes
most_value Prefixed = max_value_bytes

-- ---- which entries are listed, and what the others share

-- the first entry and each sixteenth after it are listed, and share nothing
abbrev pub begins_anew : ℕ → Bool
begins_anew i = i % restart_entries == 0

-- how many bytes the key of an entry has to share with the key before it: as many as it can
abbrev pub wants_shared : ℕ → Bytes → Bytes → ℕ
wants_shared i before key = if begins_anew i then 0 else alike before key

-- the bytes of the list of places, where there are so many entries
abbrev pub places_length : ℕ → ℕ
places_length count = 2 * ((count + 15) / 16)

abbrev pub list_length : Format → ℕ → ℕ
list_length Old count = 0
list_length Prefixed count = places_length count

-- the number in the list at a place of its own, from 0
abbrev pub listed_in : Bytes → ℕ → ℕ
listed_in bytes j = little_number 2 (drop (8 + 2 * j) bytes)

-- ---- an entry, of the bytes that begin with it

-- its bytes before the key: its kind, and the lengths
abbrev pub entry_head_by : Format → ℕ
entry_head_by Old = 7
entry_head_by Prefixed = 9

-- how many bytes of the key before begin its key
abbrev pub shared_in : Format → Bytes → ℕ
shared_in Old rest = 0
shared_in Prefixed rest = little_number 2 (drop 1 rest)

-- how many bytes of its key follow
abbrev pub rest_length_in : Format → Bytes → ℕ
rest_length_in Old rest = little_number 2 (drop 1 rest)
rest_length_in Prefixed rest = little_number 2 (drop 3 rest)

abbrev pub value_length_by : Format → Bytes → ℕ
value_length_by Old rest = little_number 4 (drop 3 rest)
value_length_by Prefixed rest = little_number 4 (drop 5 rest)

-- the bytes that it takes
unfoldable pub width_by : Format → Bytes → ℕ
width_by f rest = entry_head_by f + rest_length_in f rest + value_length_by f rest

unfoldable pub key_by : Format → Bytes → Bytes → Bytes
key_by f before rest = take (shared_in f rest) before ++ take (rest_length_in f rest) (drop (entry_head_by f) rest)

unfoldable pub value_by : Format → Bytes → Option Bytes
value_by f rest = if kind_in rest == 1 then Some (take (value_length_by f rest) (drop (entry_head_by f + rest_length_in f rest) rest)) else None

-- ---- entries, one after the other, the first of them after a key

unfoldable pub entries_by : Format → ℕ → Bytes → Bytes → List Entry
entries_by f zero before rest = []
entries_by f (suc more) before rest =
    entry_of (key_by f before rest) (value_by f rest) ∷ entries_by f more (key_by f before rest) (drop (width_by f rest) rest)
