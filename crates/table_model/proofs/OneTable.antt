-- A row's pages spell one table.
use Rattle.std.proofs.Common.{◌≡◌, List, sym, ap, ap₂, ◌∙◌}
use Rattle.std.specs.Prelude.{map}
use Rattle.entry_model.specs.Entries.{Entry}
use Rattle.block_model.specs.Index.{Index, index_bytes}
use Rattle.block_model.specs.Places.{byte_of_page, index_page}
use Rattle.byte_fields.specs.declared.parts.Row.{Row}
use Rattle.disk_trait.specs.Image.{Image}
use Rattle.filter_api.specs.Spellings.{Spelling}
use Rattle.table_model.specs.Images.{IsTableAt, table_with}
use Rattle.table_model.specs.Laws.{OneTable}
use Rattle.table_model.specs.Pieces.{blocks_in, end_to_end, index_of_pieces, row_of_piece}
use Rattle.table_model.proofs.Blocks.{same_index, same_length, same_pieces}
use Rattle.table_model.proofs.Pieces.{ranges_of_index, rows_of_index}
use Rattle.table_model.proofs.Shown.{same_shown}

-- one index
one_index : (spelling : Spelling) (row : Row) (xs ys : List (List Entry)) (image : Image) (a : IsTableAt spelling row xs image) (b : IsTableAt spelling row ys image)
    → index_of_pieces a.pieces a.ranges ≡ index_of_pieces b.pieces b.ranges
one_index spelling row xs ys image a b =
    let x = index_of_pieces a.pieces a.ranges in
    let y = index_of_pieces b.pieces b.ranges in
    same_index row.data_pages row.data_pages x y a.index_sound b.index_sound
    (same_shown (byte_of_page (index_page row)) (index_bytes x) (index_bytes y) image (a.index.size ∙ sym b.index.size) a.index.shown b.index.shown)

-- so one list of pieces
pub one_list : (spelling : Spelling) (row : Row) (xs ys : List (List Entry)) (image : Image) (a : IsTableAt spelling row xs image) (b : IsTableAt spelling row ys image)
    → a.pieces ≡ b.pieces
one_list spelling row xs ys image a b =
    let p = a.pieces in
    let q = b.pieces in
    let rows : map row_of_piece p ≡ map row_of_piece q =
    sym (rows_of_index p a.ranges) ∙ ap (λ (i : Index). i.rows) (one_index spelling row xs ys image a b) ∙ rows_of_index q b.ranges in
    let bytes : end_to_end p ≡ end_to_end q =
    same_shown (byte_of_page row.first_page) (end_to_end p) (end_to_end q) image (same_length p q row.data_pages a.each b.each a.data_pages b.data_pages) a.blocks_shown b.blocks_shown in
    same_pieces p q a.each b.each rows bytes

-- one list of blocks, and one of ranges
pub one_list_of_blocks : (spelling : Spelling) (row : Row) (xs ys : List (List Entry)) (image : Image) → IsTableAt spelling row xs image → IsTableAt spelling row ys image → xs ≡ ys
one_list_of_blocks spelling row xs ys image a b = sym a.read ∙ ap blocks_in (one_list spelling row xs ys image a b) ∙ b.read

pub one_list_of_ranges : (spelling : Spelling) (row : Row) (xs ys : List (List Entry)) (image : Image) (a : IsTableAt spelling row xs image) (b : IsTableAt spelling row ys image)
    → a.ranges ≡ b.ranges
one_list_of_ranges spelling row xs ys image a b =
    sym (ranges_of_index a.pieces a.ranges) ∙ ap (λ (i : Index). i.ranges) (one_index spelling row xs ys image a b) ∙ ranges_of_index b.pieces b.ranges

pub one_table : OneTable
one_table spelling row t u image a b =
    a.2
    ∙ ap₂ (table_with row) (one_list_of_blocks spelling row a.0 b.0 image a.1 b.1) (one_list_of_ranges spelling row a.0 b.0 image a.1 b.1)
    ∙ sym b.2
