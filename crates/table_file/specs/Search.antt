-- Which block of a table is read for a key, and what the table says of it.
use Rattle.std.specs.Prelude.{◌≡◌, ◌⊎◌, ℕ, ◌+◌, ◌*◌, List, [], take, slice_index_or, Option, Some, None, position, if◌then◌else◌}
use Rattle.std.specs.Option.{option_map}
use Rattle.byte_fields.specs.Faults.{Fault}
use Rattle.byte_fields.specs.Sums.{fnv_of}
use Rattle.byte_fields.specs.declared.parts.Damage.TheVariants as damage
use Rattle.byte_fields.specs.declared.parts.Part.TheVariants as part
use Rattle.disk_trait.specs.Image.{Image}
use Rattle.filter_api.specs.Spellings.{Spelling}
use Rattle.filter_api.specs.declared.settings.Settings.{Settings}
use Rattle.filter_model.specs.Answers.{point}
use Rattle.filter_model.specs.Leaves.{leaves_of}
use Rattle.key_base.specs.Limits.{max_block_pages, page_bytes}
use Rattle.map_model.specs.SortedMap.{Bytes}
use Rattle.entry_model.specs.Entries.{Entry, keys_of}
use Rattle.block_model.specs.Index.{Index, IndexRow, row_pages}
use Rattle.block_model.specs.Laws.{joined}
use Rattle.block_model.specs.Order.{is_from}
use Rattle.table_model.specs.Images.{IsTableAt}
use Rattle.table_model.specs.Pieces.{index_of_pieces}
use Rattle.block_model.specs.BlockReading.{block_fault}
use Rattle.block_model.specs.Places.{byte_of_page}
use Rattle.table_model.specs.Damage.{block_part}
use Rattle.table_file.specs.Faults.{IsOtherSum}
use Rattle.table_file.specs.Opened.{Opened}
use Rattle.table_file.specs.declared.fault.TableFault.{TableFault}
use Rattle.table_file.specs.declared.fault.TableFault.TheVariants as table

-- the first block whose last key is this one or more
abbrev pub first_block : List IndexRow → Bytes → Option ℕ
first_block rows key = position (λ row. is_from key row.last) rows

-- the block that may have the key, by the index: none below the least key, and none above the greatest
abbrev pub block_of_key : Index → Bytes → Option ℕ
block_of_key index key = if is_from index.least key then first_block index.rows key else None

-- the block that is read for a key: none where the filter denies it
abbrev pub block_for : Opened → Bytes → Option ℕ
block_for t key = if point t.filter.hash_bits t.filter.real_bits t.filter.leaves key then block_of_key t.index key else None

-- the table of these blocks is on the device, and this is it, opened
pub record StandsThere (spelling : Spelling) (t : Opened) (blocks : List (List Entry)) (image : Image) : Type 0 where
  pub at : IsTableAt spelling t.row blocks image
  pub index_is : t.index ≡ index_of_pieces at.pieces at.ranges
  pub hash_is : t.filter.hash_bits ≡ t.row.hash_bits
  pub real_is : t.filter.real_bits ≡ t.row.real_bits
  pub leaves_are : t.filter.leaves ≡ leaves_of t.row.hash_bits t.row.real_bits (keys_of (joined blocks))

-- ---- one of the blocks, numbered from 0

abbrev pub row_at : List IndexRow → ℕ → IndexRow
row_at rows n = slice_index_or rows n (record { pages = 0; sum = 0; last = [] })

-- the page at which it begins
abbrev pub page_at : Opened → ℕ → ℕ
page_at t n = t.row.first_page + row_pages (take n t.index.rows)

-- the bytes of its pages
abbrev pub bytes_at : Opened → ℕ → Image → Bytes
bytes_at t n image = block_part (page_at t n) (row_at t.index.rows n) image

-- they have the sum that the index keeps, and break no rule
pub record IsSoundBlock (t : Opened) (n : ℕ) (image : Image) : Type 0 where
  pub sum : (row_at t.index.rows n).sum ≡ fnv_of (bytes_at t n image)
  pub rules : block_fault (bytes_at t n image) ≡ None

-- the bytes of the largest block
abbrev pub largest_block : ℕ
largest_block = page_bytes * max_block_pages

-- how many blocks a get reads
abbrev pub blocks_of_get : Option ℕ → ℕ
blocks_of_get None = 0
blocks_of_get (Some n) = 1

-- the block has another sum than the one that its index keeps
abbrev pub IsOtherBlock : Opened → ℕ → Image → TableFault → Type 0
IsOtherBlock t n image table.Memory = ⊥
IsOtherBlock t n image (table.Device cause) = Unit {0}
IsOtherBlock t n image (table.Damaged d) = IsOtherSum part.Block (byte_of_page (page_at t n)) (row_at t.index.rows n).sum (bytes_at t n image) (table.Damaged d)

-- the bytes of a block break this rule first
abbrev pub IsBrokenBlock : Opened → ℕ → Bytes → TableFault → Type 0
IsBrokenBlock t n bytes table.Memory = ⊥
IsBrokenBlock t n bytes (table.Device cause) = ⊥
IsBrokenBlock t n bytes (table.Damaged d) = option_map (λ (f : Fault). damage.Shape part.Block (byte_of_page (page_at t n) + f.place) f.rule) (block_fault bytes) ≡ Some d

-- these bytes of a block have another sum than the index keeps, or where the sum agrees, break this rule first
abbrev pub IsDamagedBlock : Opened → ℕ → Bytes → TableFault → Type 0
IsDamagedBlock t n bytes table.Memory = ⊥
IsDamagedBlock t n bytes (table.Device cause) = ⊥
IsDamagedBlock t n bytes (table.Damaged d) =
    IsOtherSum part.Block (byte_of_page (page_at t n)) (row_at t.index.rows n).sum bytes (table.Damaged d) ⊎ (((row_at t.index.rows n).sum ≡ fnv_of bytes) × IsBrokenBlock t n bytes (table.Damaged d))

-- A get that fails in the block number n: the device's fault, another sum, or where the sum agrees, the first rule that the
-- bytes break.
abbrev pub IsGetFault : Opened → ℕ → Image → TableFault → Type 0
IsGetFault t n image table.Memory = ⊥
IsGetFault t n image (table.Device cause) = Unit {0}
IsGetFault t n image (table.Damaged d) =
    IsOtherBlock t n image (table.Damaged d) ⊎ (((row_at t.index.rows n).sum ≡ fnv_of (bytes_at t n image)) × IsBrokenBlock t n (bytes_at t n image) (table.Damaged d))
