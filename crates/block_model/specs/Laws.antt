-- The laws of the formats: a table is cut into blocks, these have the lengths and pages that are counted, and whatever is
-- written is read again, and whatever breaks no rule was written so.
use Rattle.std.specs.Prelude.{◌≡◌, ◌≤◌, ℕ, ◌*◌, List, [], ◌∷◌, ◌++◌, length, flat_map, None}
use Rattle.std.specs.List.{AllByRecursion}
use Rattle.byte_fields.specs.Spelling.{IsBytes}
use Rattle.key_base.specs.Limits.{max_block_pages}
use Rattle.map_model.specs.SortedMap.{Bytes}
use Rattle.entry_model.specs.Entries.{Entry}
use Rattle.range_model.specs.Ranges.{DeletedRange}
use Rattle.block_model.specs.Block.{IsBlock, IsTable, block_bytes, data_bytes, spelled_by}
use Rattle.block_model.specs.BlockReading.{block_fault, block_in}
use Rattle.block_model.specs.Formats.{Format, Prefixed, format_in}
use Rattle.block_model.specs.Index.{AreIndexRanges, Index, IsIndex, index_bytes, index_with}
use Rattle.block_model.specs.IndexReading.{index_fault, index_in}
use Rattle.block_model.specs.Pages.{block_pages, blocks_of, blocks_with, data_pages, index_length_with, page_bytes}

abbrev pub joined : List (List Entry) → List Entry
joined blocks = flat_map (λ block. block) blocks

-- the blocks, one after the other, are the entries
abbrev pub BlocksAreTheEntries : Type 0
BlocksAreTheEntries = (entries : List Entry) → joined (blocks_of entries) ≡ entries

-- each more entry goes into the last block or behind it
abbrev pub BlocksGrow : Type 0
BlocksGrow = (entries : List Entry) (entry : Entry) → blocks_of (entries ++ (entry ∷ [])) ≡ blocks_with (blocks_of entries) entry

-- the blocks of a table are blocks of the format in which they are written
abbrev pub BlocksAreSound : Type 0
BlocksAreSound = (entries : List Entry) → IsTable entries → AllByRecursion (IsBlock Prefixed) (blocks_of entries)

-- a block takes the pages that are counted, and so do all blocks of a table
abbrev pub BlockFillsItsPages : Type 0
BlockFillsItsPages = (block : List Entry) → length (block_bytes block) ≡ page_bytes * block_pages block

abbrev pub BlocksFillTheirPages : Type 0
BlocksFillTheirPages = (entries : List Entry) → length (data_bytes entries) ≡ page_bytes * data_pages entries

-- a block has a page or more, and no more than the largest
abbrev pub BlockHasFewPages : Type 0
BlockHasFewPages = (block : List Entry) → IsBlock Prefixed block → (1 ≤ block_pages block) × (block_pages block ≤ max_block_pages)

-- an index is as long as is counted
abbrev pub IndexHasItsLength : Type 0
IndexHasItsLength = (entries : List Entry) (ranges : List DeletedRange) → length (index_bytes (index_with entries ranges)) ≡ index_length_with entries ranges

-- the index of a table is one
abbrev pub IndexIsSound : Type 0
IndexIsSound =
    (entries : List Entry) (ranges : List DeletedRange) → IsTable entries → AreIndexRanges ranges → IsIndex (data_pages entries) (index_with entries ranges)

-- what was written is read again
abbrev pub BlockIsReadAgain : Type 0
BlockIsReadAgain =
    (f : Format) (block : List Entry) → IsBlock f block → (block_fault (spelled_by f block) ≡ None) × (block_in (spelled_by f block) ≡ block)

abbrev pub IndexIsReadAgain : Type 0
IndexIsReadAgain =
    (pages : ℕ) (index : Index) → IsIndex pages index → (index_fault pages (index_bytes index) ≡ None) × (index_in (index_bytes index) ≡ index)

-- what breaks no rule was written so
abbrev pub BlockWasWrittenSo : Type 0
BlockWasWrittenSo =
    (bytes : Bytes) → IsBytes bytes → block_fault bytes ≡ None → IsBlock (format_in bytes) (block_in bytes) × (spelled_by (format_in bytes) (block_in bytes) ≡ bytes)

abbrev pub IndexWasWrittenSo : Type 0
IndexWasWrittenSo =
    (pages : ℕ) (bytes : Bytes) → IsBytes bytes → index_fault pages bytes ≡ None → IsIndex pages (index_in bytes) × (index_bytes (index_in bytes) ≡ bytes)
