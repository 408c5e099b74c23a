-- The bytes of a table's index: the least key, and for each block its pages, the sum of its bytes and its last key; and the
-- ranges of keys that the table deletes, where there are some.
use Rattle.std.specs.Prelude.{◌≡◌, ℕ, ◌≤◌, ◌<◌, ◌^◌, List, [], ◌∷◌, ◌++◌, length, map, flat_map, sum_by}
use Rattle.std.specs.List.{AllByRecursion}
use Rattle.key_base.specs.Limits.{max_block_pages, max_key_bytes}
use Rattle.map_model.specs.SortedMap.{Bytes}
use Rattle.entry_model.specs.Entries.{Entry}
use Rattle.byteorder.specs.Endian.{little_bytes}
use Rattle.byte_fields.specs.Fields.{fields}
use Rattle.byte_fields.specs.Sums.{fnv_of}
use Rattle.range_model.specs.Ranges.{DeletedRange, AreRanges}
use Rattle.block_model.specs.Block.{block_bytes}
use Rattle.block_model.specs.Order.{Follow, is_from}
use Rattle.block_model.specs.Pages.{block_pages, blocks_of, first_key, last_key}

-- what an index says of a block
pub record IndexRow : Type 0 where
  pub pages : ℕ
  pub sum : ℕ
  pub last : Bytes

pub record Index : Type 0 where
  pub least : Bytes
  pub rows : List IndexRow
  pub ranges : List DeletedRange

-- SRFI, or SRFJ where there are ranges
abbrev pub index_magic : ℕ
index_magic = 0x49465253

abbrev pub ranges_magic : ℕ
ranges_magic = 0x4A465253

abbrev pub magic_for : List DeletedRange → ℕ
magic_for [] = index_magic
magic_for (range ∷ later) = ranges_magic

-- the magic, how many blocks, and the least key after its length

abbrev pub index_head_widths : List ℕ
index_head_widths = 4 ∷ 4 ∷ 2 ∷ []

unfoldable pub index_head_bytes : Index → Bytes
index_head_bytes index = fields index_head_widths (magic_for index.ranges ∷ length index.rows ∷ length index.least ∷ []) ++ index.least

-- pages, sum, and the last key after its length
abbrev pub index_row_widths : List ℕ
index_row_widths = 4 ∷ 8 ∷ 2 ∷ []

unfoldable pub index_row_bytes : IndexRow → Bytes
index_row_bytes row = fields index_row_widths (row.pages ∷ row.sum ∷ length row.last ∷ []) ++ row.last

-- a range: its two bounds, each after its length
abbrev pub bound_bytes : Bytes → Bytes
bound_bytes key = little_bytes 2 (length key) ++ key

unfoldable pub range_bytes : DeletedRange → Bytes
range_bytes range = bound_bytes range.lo ++ bound_bytes range.hi

-- how many ranges, and these; nothing where there are none
unfoldable pub ranges_bytes : List DeletedRange → Bytes
ranges_bytes [] = []
ranges_bytes (range ∷ later) = little_bytes 4 (length (range ∷ later)) ++ flat_map range_bytes (range ∷ later)

unfoldable pub index_bytes : Index → Bytes
index_bytes index = index_head_bytes index ++ (flat_map index_row_bytes index.rows ++ ranges_bytes index.ranges)

-- the index of a table's entries and ranges
unfoldable pub index_row_of : List Entry → IndexRow
index_row_of block = record { pages = block_pages block; sum = fnv_of (block_bytes block); last = last_key block }

unfoldable pub index_with : List Entry → List DeletedRange → Index
index_with entries ranges = record { least = first_key entries; rows = map index_row_of (blocks_of entries); ranges = ranges }

-- that of entries and no range
abbrev pub index_of : List Entry → Index
index_of entries = index_with entries []

-- the pages of all its blocks
abbrev pub row_pages : List IndexRow → ℕ
row_pages rows = sum_by (λ row. row.pages) rows

-- as many ranges as an index takes
pub record AreIndexRanges (ranges : List DeletedRange) : Type 0 where
  pub sound : AreRanges ranges
  pub few : length ranges < 2 ^ 32

-- what a row has, and what an index has for so many pages of blocks
pub record IsIndexRow (row : IndexRow) : Type 0 where
  pub some_pages : 1 ≤ row.pages
  pub few_pages : row.pages ≤ max_block_pages
  pub sum : row.sum < 2 ^ 64
  pub some_key : 1 ≤ length row.last
  pub short_key : length row.last ≤ max_key_bytes

pub record IsIndex (pages : ℕ) (index : Index) : Type 0 where
  pub some_key : 1 ≤ length index.least
  pub short_key : length index.least ≤ max_key_bytes
  pub some : 1 ≤ length index.rows
  pub few : length index.rows < 2 ^ 32
  pub each : AllByRecursion IsIndexRow index.rows
  pub rising : Follow (is_from index.least) (map (λ row. row.last) index.rows)
  pub all_pages : row_pages index.rows ≡ pages
  pub ranges : AreIndexRanges index.ranges
