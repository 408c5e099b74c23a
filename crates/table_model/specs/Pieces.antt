-- The blocks of a table as they are on a device: pieces of bytes, each of either format.
use Rattle.std.specs.Prelude.{◌≡◌, ℕ, List, length, map, flat_map, None}
use Rattle.byte_fields.specs.Sums.{fnv_of}
use Rattle.map_model.specs.SortedMap.{Bytes}
use Rattle.entry_model.specs.Entries.{Entry}
use Rattle.range_model.specs.Ranges.{DeletedRange}
use Rattle.block_model.specs.Block.{IsBlock}
use Rattle.block_model.specs.BlockReading.{block_fault, block_in}
use Rattle.block_model.specs.Formats.{format_in}
use Rattle.block_model.specs.Index.{Index, IndexRow}
use Rattle.block_model.specs.Laws.{joined}
use Rattle.block_model.specs.Pages.{first_key, last_key, pages_for}

-- bytes that break no rule, and are read as a sound block of the format that they name
pub record IsPiece (piece : Bytes) : Type 0 where
  pub whole : block_fault piece ≡ None
  pub sound : IsBlock (format_in piece) (block_in piece)

-- the blocks that are read of them, and all their bytes
abbrev pub blocks_in : List Bytes → List (List Entry)
blocks_in pieces = map block_in pieces

abbrev pub end_to_end : List Bytes → Bytes
end_to_end pieces = flat_map (λ piece. piece) pieces

abbrev pub piece_pages : Bytes → ℕ
piece_pages piece = pages_for (length piece)

-- what an index says of a piece
unfoldable pub row_of_piece : Bytes → IndexRow
row_of_piece piece = record { pages = piece_pages piece; sum = fnv_of piece; last = last_key (block_in piece) }

-- the index of some pieces, and of ranges
unfoldable pub index_of_pieces : List Bytes → List DeletedRange → Index
index_of_pieces pieces ranges = record { least = first_key (joined (blocks_in pieces)); rows = map row_of_piece pieces; ranges = ranges }
