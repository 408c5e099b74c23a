-- A table as it is on a device: its blocks, its index and its filter, one after the other.
use Rattle.std.specs.Prelude.{◌≡◌, ℕ, List, length, sum_by}
use Rattle.std.specs.List.{AllByRecursion}
use Rattle.disk_trait.specs.Image.{Image, Shows}
use Rattle.byte_fields.specs.Sums.{fnv_of}
use Rattle.byte_fields.specs.declared.parts.Row.{Row}
use Rattle.filter_api.specs.Ranges.{row_settings}
use Rattle.filter_api.specs.declared.settings.Settings.{Settings}
use Rattle.filter_api.specs.Spellings.{Spelling, IsSpelling}
use Rattle.filter_model.specs.Leaves.{leaves_of}
use Rattle.map_model.specs.SortedMap.{Bytes}
use Rattle.entry_model.specs.Entries.{Entry, keys_of}
use Rattle.range_model.specs.Ranges.{DeletedRange}
use Rattle.block_model.specs.Block.{IsTable}
use Rattle.block_model.specs.Index.{IsIndex, index_bytes}
use Rattle.block_model.specs.Laws.{joined}
use Rattle.block_model.specs.Pages.{pages_for}
use Rattle.block_model.specs.Places.{byte_of_page, filter_page, index_page, pages_of}
use Rattle.table_model.specs.Pieces.{IsPiece, blocks_in, end_to_end, index_of_pieces, piece_pages}
use Rattle.table_model.specs.Tables.{Table}

-- a part is at its page, with the length and the sum that the row keeps
pub record IsPart (page length_kept sum_kept : ℕ) (bytes : Bytes) (image : Image) : Type 0 where
  pub shown : Shows (byte_of_page page) bytes image
  pub size : length bytes ≡ length_kept
  pub sum : fnv_of bytes ≡ sum_kept

-- the bytes spell a filter that stands for the leaves of these keys, with any cutoff
pub record IsFilterOfKeys (spelling : Spelling) (settings : Settings) (keys : List Bytes) (bytes : Bytes) : Type 0 where
  pub cutoff : ℕ
  pub spelled : IsSpelling spelling settings.hash_bits settings.real_bits cutoff (leaves_of settings.hash_bits settings.real_bits keys) bytes

-- The row's pages spell a table of these blocks: pieces of either format, one for each block, whose keys go on rising from one
-- to the next, the index of the pieces, with any ranges, and a filter of their keys by the row's settings. Index and filter have
-- the pages that their lengths want.
pub record IsTableAt (spelling : Spelling) (row : Row) (blocks : List (List Entry)) (image : Image) : Type 0 where
  pub pieces : List Bytes
  pub read : blocks_in pieces ≡ blocks
  pub each : AllByRecursion IsPiece pieces
  pub table : IsTable (joined blocks)
  pub blocks_shown : Shows (byte_of_page row.first_page) (end_to_end pieces) image
  pub data_pages : sum_by piece_pages pieces ≡ row.data_pages
  pub index_pages : row.index_pages ≡ pages_for row.index_len
  pub filter_pages : row.filter_pages ≡ pages_for row.filter_len
  pub ranges : List DeletedRange
  pub index_sound : IsIndex row.data_pages (index_of_pieces pieces ranges)
  pub index : IsPart (index_page row) row.index_len row.index_sum (index_bytes (index_of_pieces pieces ranges)) image
  pub filter_bytes : Bytes
  pub filter_of_keys : IsFilterOfKeys spelling (row_settings row) (keys_of (joined blocks)) filter_bytes
  pub filter : IsPart (filter_page row) row.filter_len row.filter_sum filter_bytes image
  pub entries : length (joined blocks) ≡ row.entries

-- the table of a row, of which these are the blocks and the ranges
abbrev pub table_with : Row → List (List Entry) → List DeletedRange → Table
table_with row blocks ranges = record {
  level = row.level;
  first_page = row.first_page;
  pages = pages_of row;
  blocks = length blocks;
  settings = row_settings row;
  entries = joined blocks;
  ranges = ranges;
}

-- the table that a row's pages spell
abbrev pub IsTableOf : Spelling → Row → Table → Image → Type 0
IsTableOf spelling row t image = (blocks : List (List Entry)) × (is : IsTableAt spelling row blocks image) × (t ≡ table_with row blocks is.ranges)

-- the table is in its extent: some row's pages spell it
abbrev pub StandsInExtent : Spelling → Image → Table → Type 0
StandsInExtent spelling image t = (row : Row) × IsTableOf spelling row t image
