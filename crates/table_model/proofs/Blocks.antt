-- The index of some pieces and their bytes say which pieces they are.
use Rattle.std.proofs.Common.{◌≡◌, ◌*◌, ℕ, List, [], ◌∷◌, length, refl, sym, ap, ap₂, ◌∙◌}
use Rattle.std.specs.Prelude.{map, sum_by}
use Rattle.std.specs.List.{AllByRecursion}
use Rattle.map_model.specs.SortedMap.{Bytes}
use Rattle.block_model.specs.Index.{Index, IndexRow, IsIndex, index_bytes}
use Rattle.block_model.specs.IndexReading.{index_in}
use Rattle.block_model.proofs.IndexesRead.{index_again}
use Rattle.table_model.specs.Pieces.{IsPiece, end_to_end, piece_pages, row_of_piece}
use Rattle.table_model.proofs.Pieces.{piece_fills, pieces_fill, row_pages_are}
use Rattle.table_model.proofs.Shown.{same_parts}

-- two indexes that are spelled alike
pub same_index : (pages others : ℕ) (x y : Index) → IsIndex pages x → IsIndex others y → index_bytes x ≡ index_bytes y → x ≡ y
same_index pages others x y a b same = sym (index_again pages x a).1 ∙ ap index_in same ∙ (index_again others y b).1

-- two pieces with the same row in an index
same_pages : (x y : Bytes) → row_of_piece x ≡ row_of_piece y → piece_pages x ≡ piece_pages y
same_pages x y same = sym (row_pages_are x) ∙ ap (λ (row : IndexRow). row.pages) same ∙ row_pages_are y

-- pieces of the same pages, one by one, that are the same bytes together
pub same_pieces : (xs ys : List Bytes) → AllByRecursion IsPiece xs → AllByRecursion IsPiece ys → map row_of_piece xs ≡ map row_of_piece ys
    → end_to_end xs ≡ end_to_end ys → xs ≡ ys
same_pieces [] [] a b rows bytes = refl
same_pieces [] (y ∷ ys) a b rows bytes = cc
same_pieces (x ∷ xs) [] a b rows bytes = cc
same_pieces (x ∷ xs) (y ∷ ys) a b rows bytes =
    let rows_are : row_of_piece x ∷ map row_of_piece xs ≡ row_of_piece y ∷ map row_of_piece ys = rows in
    let heads : row_of_piece x ≡ row_of_piece y = cc in
    let tails : map row_of_piece xs ≡ map row_of_piece ys = cc in
    let pages : piece_pages x ≡ piece_pages y = same_pages x y heads in
    let parts = same_parts x y (end_to_end xs) (end_to_end ys) (piece_fills x a.0.whole ∙ ap (λ (n : ℕ). 4096 * n) pages ∙ sym (piece_fills y b.0.whole)) bytes in
    ap₂ (λ (z : Bytes) (zs : List Bytes). z ∷ zs) parts.0 (same_pieces xs ys a.1 b.1 tails parts.1)

-- pieces at one place of the same pages
pub same_length : (xs ys : List Bytes) (pages : ℕ) → AllByRecursion IsPiece xs → AllByRecursion IsPiece ys → sum_by piece_pages xs ≡ pages → sum_by piece_pages ys ≡ pages
    → length (end_to_end xs) ≡ length (end_to_end ys)
same_length xs ys pages a b x y = pieces_fill xs a ∙ ap (λ (n : ℕ). 4096 * n) (x ∙ sym y) ∙ sym (pieces_fill ys b)
