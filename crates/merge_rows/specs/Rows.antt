-- The rows of some sources of entries: the newest entry of each key, by rising keys.
use Rattle.std.specs.Prelude.{Bool, not, List, filter, reverse, is_some, if◌then◌else◌}
use Rattle.block_model.specs.Laws.{joined}
use Rattle.entry_model.specs.Entries.{Entry}
use Rattle.entry_model.specs.Newest.{newest_entries}
use Rattle.key_base.specs.ByteOrder.{is_before}
use Rattle.map_model.specs.SortedMap.{Bytes}

-- of each key the entry of the first source that has one, where the newest source is first
abbrev pub merged_rows : List (List Entry) → List Entry
merged_rows sources = newest_entries (joined (reverse sources))

-- without the tombstones, where they are dropped
abbrev pub rows_shown : Bool → List Entry → List Entry
rows_shown drops rows = if drops then filter (λ (e : Entry). is_some e.value) rows else rows

-- the keys that are still to come: those from a key on, or above it once it was passed
pub record KeyFloor : Type 0 where
  pub key : Bytes
  pub passed : Bool

abbrev pub clears : KeyFloor → Bytes → Bool
clears floor key = if floor.passed then is_before floor.key key else not (is_before key floor.key)

abbrev pub above_floor : KeyFloor → List Entry → List Entry
above_floor floor entries = filter (λ (e : Entry). clears floor e.key) entries
