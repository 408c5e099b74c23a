-- The bytes of a block of the first format: a header, the entries one after the other with whole keys, and zero bytes to the
-- end of the last page. No store writes it any more.
use Rattle.std.specs.Prelude.{ℕ, ◌+◌, List, [], ◌∷◌, ◌++◌, length, flat_map}
use Rattle.map_model.specs.SortedMap.{Bytes}
use Rattle.entry_model.specs.Entries.{Entry, body}
use Rattle.byte_fields.specs.Fields.{fields}
use Rattle.block_model.specs.Formats.{header_widths}
use Rattle.block_model.specs.Pages.{padding}

-- the bytes that are used: its header of eight bytes and its entries
unfoldable pub old_block_length : List Entry → ℕ
old_block_length block = 8 + length (flat_map body block)

unfoldable pub old_header_bytes : List Entry → Bytes
old_header_bytes block = fields header_widths (old_block_length block ∷ length block ∷ 0 ∷ [])

unfoldable pub old_block_bytes : List Entry → Bytes
old_block_bytes block = old_header_bytes block ++ (flat_map body block ++ padding (old_block_length block))
