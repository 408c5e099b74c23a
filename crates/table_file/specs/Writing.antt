-- What is on a device when the parts of a table are written, and which call of it failed.
use Rattle.std.specs.Prelude.{◌≡◌, ◌⊎◌, ℕ, ◌+◌, ◌++◌, List, length}
use Rattle.disk_trait.specs.Fault.{IsFaultOf}
use Rattle.disk_trait.specs.Image.{Image, Shows, overwritten}
use Rattle.disk_trait.specs.declared.fault.DiskFault.{DiskFault}
use Rattle.disk_trait.specs.declared.fault.Op.TheVariants.{Sync, Write}
use Rattle.byte_fields.specs.declared.parts.Row.{Row}
use Rattle.map_model.specs.SortedMap.{Bytes}
use Rattle.filter_api.specs.Spellings.{Spelling}
use Rattle.filter_api.specs.declared.settings.Settings.{Settings}
use Rattle.filter_model.specs.Leaves.{Leaf}
use Rattle.entry_model.specs.Entries.{Entry, keys_of}
use Rattle.range_model.specs.Sources.{Source}
use Rattle.block_model.specs.Block.{data_bytes}
use Rattle.block_model.specs.Pages.{padding}
use Rattle.block_model.specs.Index.{index_bytes, index_with}
use Rattle.block_model.specs.Laws.{joined}
use Rattle.block_model.specs.Places.{byte_of_page, filter_page, index_page}
use Rattle.table_model.specs.Tables.{filter_bytes_of}
use Rattle.table_model.specs.Written.{row_from}
use Rattle.table_file.specs.Building.{Built, source_in}
use Rattle.table_file.specs.Opened.{Opened}
use Rattle.table_file.specs.Parts.{filter_of}
use Rattle.table_file.specs.Search.{StandsThere}

-- bytes, and zero bytes after them to the end of their last page
abbrev pub in_whole_pages : Bytes → Bytes
in_whole_pages bytes = bytes ++ padding (length bytes)

-- the blocks exactly, index and filter with zero bytes to the end of their last pages, each at its page
pub record AreWritten (row : Row) (s : Source) (filter_bytes : Bytes) (image : Image) : Type 0 where
  pub blocks : Shows (byte_of_page row.first_page) (data_bytes s.entries) image
  pub index : Shows (byte_of_page (index_page row)) (in_whole_pages (index_bytes (index_with s.entries s.ranges))) image
  pub filter : Shows (byte_of_page (filter_page row)) (in_whole_pages filter_bytes) image

-- the filter's bytes and the row of a table that is built, on a level and from a page on
abbrev pub made_filter : Spelling → (ℕ → List Leaf → ℕ) → Built → Bytes
made_filter spelling built_cutoff built = filter_bytes_of spelling built_cutoff built.settings (keys_of built.entries)

abbrev pub made_row : Spelling → (ℕ → List Leaf → ℕ) → Built → ℕ → ℕ → Row
made_row spelling built_cutoff built level first_page = row_from level first_page built.settings (source_in built) (made_filter spelling built_cutoff built)

-- the table of such a row as it is opened
abbrev pub opened_of : (ℕ → List Leaf → ℕ) → Built → Row → Opened
opened_of built_cutoff built row = record { row = row; index = index_with built.entries built.ranges; filter = filter_of built_cutoff built.settings (keys_of built.entries) }

-- an opened table is on the device, with these entries
abbrev pub StandsWith : Spelling → Opened → List Entry → Image → Type 0
StandsWith spelling t entries image = (blocks : List (List Entry)) × StandsThere spelling t blocks image × (joined blocks ≡ entries)

-- three pieces written one after the other
abbrev pub three_written : Image → ℕ → Bytes → Bytes → Bytes → Image
three_written image at first second third =
    overwritten (overwritten (overwritten image at first) (at + length first) second) (at + length first + length second) third

-- the fault of one of three writes, or of the sync after them
abbrev pub IsWriteOf : ℕ → ℕ → ℕ → DiskFault → Type 0
IsWriteOf first second third fault = IsFaultOf Write first fault ⊎ (IsFaultOf Write second fault ⊎ (IsFaultOf Write third fault ⊎ IsFaultOf Sync 0 fault))
