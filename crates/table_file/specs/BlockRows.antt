-- The rows of an index in memory, as the definitions see them.
use Rattle.std.specs.Prelude.{◌≡◌, ℕ, zero, suc, ◌+◌, ◌*◌, List, [], ◌∷◌, length, map, take, drop}
use Rattle.byte_fields.specs.Sums.{fnv_of}
use Rattle.map_model.specs.SortedMap.{Bytes}
use Rattle.entry_model.specs.Entries.{Entry}
use Rattle.block_model.specs.Index.{IndexRow, row_pages}
use Rattle.block_model.specs.Pages.{block_pages, last_key, page_bytes}
use Rattle.table_file.specs.Search.{row_at}
use Rattle.table_file.specs.declared.block_row.BlockRow.{BlockRow}

abbrev pub row_seen : BlockRow → IndexRow
row_seen row = record { pages = row.pages; sum = row.sum; last = row.last.items }

abbrev pub rows_seen : List BlockRow → List IndexRow
rows_seen rows = map row_seen rows

abbrev pub lasts : List BlockRow → List Bytes
lasts rows = map (λ (row : BlockRow). row.last.items) rows

-- the blocks are one after the other, a given number of pages before the first
abbrev pub StandFrom : ℕ → List BlockRow → Type 0
StandFrom page [] = Unit {0}
StandFrom page (row ∷ later) = (row.first ≡ page) × StandFrom (page + row.pages) later

-- they are those of the blocks that these bytes are
pub record AreRowsOf (rows : List BlockRow) (bytes : Bytes) : Type 0 where
  pub stand : StandFrom 0 rows
  pub whole : length bytes ≡ page_bytes * row_pages (rows_seen rows)

-- ---- the sums of the blocks

-- the row of a block that is not summed yet
abbrev pub unsummed_row_of : List Entry → IndexRow
unsummed_row_of block = record { pages = block_pages block; sum = 0; last = last_key block }

-- the rows of the blocks that these bytes are, the first n with their sums
abbrev pub summed_rows : ℕ → List IndexRow → Bytes → List IndexRow
summed_rows zero rows bytes = rows
summed_rows (suc more) [] bytes = []
summed_rows (suc more) (row ∷ later) bytes =
    record row { sum = fnv_of (take (page_bytes * row.pages) bytes) } ∷ summed_rows more later (drop (page_bytes * row.pages) bytes)

abbrev pub summed_all : List IndexRow → Bytes → List IndexRow
summed_all rows bytes = summed_rows (length rows) rows bytes

-- the bytes of one of the blocks, numbered from 0
abbrev pub block_at : ℕ → List IndexRow → Bytes → Bytes
block_at n rows bytes = take (page_bytes * (row_at rows n).pages) (drop (page_bytes * row_pages (take n rows)) bytes)
