-- The blocks of an index that was read, numbered from 0.
use Rattle.std.specs.Prelude.{◌+◌, ℕ, Option, take}
use Rattle.byte_fields.specs.declared.parts.Damage.{Damage}
use Rattle.disk_trait.specs.Image.{Image}
use Rattle.map_model.specs.SortedMap.{Bytes}
use Rattle.block_model.specs.Index.{row_pages}
use Rattle.table_model.specs.Damage.{block_damage, block_part}
use Rattle.table_file.specs.Opened.{RowIndex}
use Rattle.table_file.specs.Search.{row_at}

-- the page at which one begins
abbrev pub page_of : RowIndex → ℕ → ℕ
page_of x n = x.row.first_page + row_pages (take n x.index.rows)

-- its bytes, and its damage
abbrev pub part_of : RowIndex → ℕ → Image → Bytes
part_of x n image = block_part (page_of x n) (row_at x.index.rows n) image

abbrev pub damage_at : RowIndex → ℕ → Image → Option Damage
damage_at x n image = block_damage (page_of x n) (row_at x.index.rows n) image
