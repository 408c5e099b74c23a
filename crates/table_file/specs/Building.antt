-- What a builder of tables holds.
use Rattle.std.specs.Prelude.{◌≡◌, ◌*◌, List, [], ◌∷◌, ◌++◌, take, drop, map, flat_map}
use Rattle.std.specs.List.{AllByRecursion}
use Rattle.filter_api.specs.declared.settings.Settings.{Settings}
use Rattle.map_model.specs.SortedMap.{Bytes}
use Rattle.entry_model.specs.Entries.{Entry, keys_of}
use Rattle.range_model.specs.Ranges.{DeletedRange}
use Rattle.range_model.specs.Sources.{Source}
use Rattle.block_model.specs.Block.{AreEntries, IsBlock, block_bytes}
use Rattle.block_model.specs.BlockReading.{block_in}
use Rattle.block_model.specs.Formats.{Prefixed}
use Rattle.block_model.specs.Index.{IndexRow}
use Rattle.block_model.specs.Laws.{joined}
use Rattle.block_model.specs.Order.{Follow, is_any}
use Rattle.block_model.specs.Pages.{blocks_of, page_bytes}
use Rattle.table_file.specs.BlockRows.{unsummed_row_of}

-- the entries and the ranges of a table that is built, and the settings of its filter
pub record Built : Type 0 where
  pub settings : Settings
  pub entries : List Entry
  pub ranges : List DeletedRange

abbrev pub source_in : Built → Source
source_in built = record { entries = built.entries; ranges = built.ranges }

-- the blocks that these bytes are, one after the other, with the pages of these rows
abbrev pub closed_in : List IndexRow → Bytes → List (List Entry)
closed_in [] bytes = []
closed_in (row ∷ later) bytes = block_in (take (page_bytes * row.pages) bytes) ∷ closed_in later (drop (page_bytes * row.pages) bytes)

-- some blocks, and after them the open one where it has an entry
abbrev pub with_open : List (List Entry) → List Entry → List (List Entry)
with_open closed [] = closed
with_open closed (entry ∷ more) = closed ++ (entry ∷ more) ∷ []

-- the entries of some blocks and of the open one
abbrev pub entries_with : List (List Entry) → List Entry → List Entry
entries_with closed last = joined closed ++ last

-- Bytes and rows of the closed blocks, an open block and all keys: the entries are cut into these blocks. No block is closed
-- before another one is open, and none is summed yet.
pub record Holds (closed : List (List Entry)) (bytes : Bytes) (rows : List IndexRow) («open» : List Entry) (keys : List Bytes) : Type 0 where
  pub bytes_are : flat_map block_bytes closed ≡ bytes
  pub rows_are : map unsummed_row_of closed ≡ rows
  pub keys_are : keys_of (entries_with closed «open») ≡ keys
  pub cut : blocks_of (entries_with closed «open») ≡ with_open closed «open»
  pub each : AllByRecursion (IsBlock Prefixed) closed
  pub sound : AreEntries (entries_with closed «open»)
  pub rising : Follow is_any (keys_of (entries_with closed «open»))
  pub begun : «open» ≡ [] → closed ≡ []
