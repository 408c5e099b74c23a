-- The bytes of a block: a header, the places of its listed entries, the entries one after the other, and zero bytes to the end
-- of the last page. Blocks are written so; those of the first format are read too.
use Rattle.std.specs.Prelude.{ℕ, ◌+◌, ◌^◌, ◌<◌, ◌≤◌, List, [], ◌∷◌, ◌++◌, length, flat_map}
use Rattle.std.specs.List.{AllByRecursion}
use Rattle.byteorder.specs.Endian.{little_bytes}
use Rattle.map_model.specs.SortedMap.{Bytes}
use Rattle.entry_model.specs.Entries.{Entry, IsEntry, IsLogged, keys_of}
use Rattle.byte_fields.specs.Fields.{fields}
use Rattle.block_model.specs.Bodies.{entries_bytes, listed_places}
use Rattle.block_model.specs.Formats.{Format, Old, Prefixed, header_widths, places_length}
use Rattle.block_model.specs.OldBlock.{old_block_bytes, old_block_length}
use Rattle.block_model.specs.Order.{Follow, is_any}
use Rattle.block_model.specs.Pages.{page_bytes, max_block_entries, padding, block_length, blocks_of}

unfoldable pub header_bytes : List Entry → Bytes
header_bytes block = fields header_widths (block_length block ∷ length block ∷ 2 ∷ [])

-- the list: two bytes for each place
unfoldable pub list_bytes : List Entry → Bytes
list_bytes block = flat_map (little_bytes 2) (listed_places 0 (8 + places_length (length block)) [] block)

unfoldable pub block_bytes : List Entry → Bytes
block_bytes block = header_bytes block ++ (list_bytes block ++ (entries_bytes 0 [] block ++ padding (block_length block)))

-- the blocks of a table, one after the other
unfoldable pub data_bytes : List Entry → Bytes
data_bytes entries = flat_map block_bytes (blocks_of entries)

-- as many entries as a table takes
pub record AreEntries (entries : List Entry) : Type 0 where
  pub each : AllByRecursion IsEntry entries
  pub few : length entries < 2 ^ 32

-- the entries of a table: one or more, by rising keys
pub record IsTable (entries : List Entry) : Type 0 where
  pub sound : AreEntries entries
  pub some : 1 ≤ length entries
  pub rising : Follow is_any (keys_of entries)

-- ---- of either format

abbrev pub length_by : Format → List Entry → ℕ
length_by Old block = old_block_length block
length_by Prefixed block = block_length block

abbrev pub spelled_by : Format → List Entry → Bytes
spelled_by Old block = old_block_bytes block
spelled_by Prefixed block = block_bytes block

-- an entry within the limits of the format
abbrev pub IsEntryOf : Format → Entry → Type 0
IsEntryOf Old entry = IsLogged entry
IsEntryOf Prefixed entry = IsEntry entry

-- the entries of a block: at least one and at most so many, by rising keys, and one alone where it takes more than a page
pub record IsBlock (f : Format) (block : List Entry) : Type 0 where
  pub each : AllByRecursion (IsEntryOf f) block
  pub rising : Follow is_any (keys_of block)
  pub some : 1 ≤ length block
  pub few : length block ≤ max_block_entries
  pub small : 1 < length block → length_by f block ≤ page_bytes
