-- Pieces fill their pages; and blocks that are written are pieces.
use Rattle.std.proofs.Common.{◌≡◌, ◌+◌, ◌*◌, ℕ, List, [], ◌∷◌, ◌++◌, length, refl, sym, ap, ap₂, ◌∙◌, arith, subst, length-append}
use Rattle.std.specs.Prelude.{flat_map, map, sum_by, None}
use Rattle.std.specs.List.{AllByRecursion}
use Rattle.std.proofs.lemmas.Bool.{eqb-true, or_parts}
use Rattle.std.proofs.lemmas.List.Sums.{sum_by-cons}
use Rattle.byte_fields.specs.Sums.{fnv_of}
use Rattle.map_model.specs.SortedMap.{Bytes}
use Rattle.entry_model.specs.Entries.{Entry}
use Rattle.range_model.specs.Ranges.{DeletedRange}
use Rattle.block_model.specs.Block.{IsBlock, block_bytes}
use Rattle.block_model.specs.BlockReading.{block_fault, block_in, header_fault_by, used_in}
use Rattle.block_model.specs.Formats.{Format, Prefixed, format_in}
use Rattle.block_model.specs.Index.{IndexRow, index_row_of}
use Rattle.block_model.specs.Laws.{joined}
use Rattle.block_model.specs.Pages.{block_pages, first_key, last_key, pages_for}
use Rattle.block_model.proofs.BlocksRead.{block_again, format_again}
use Rattle.block_model.proofs.Cutting.{block_fills_pages}
use Rattle.block_model.proofs.EntriesJudged.{header_kept}
use Rattle.block_model.proofs.Refusals.{kept, not_false}
use Rattle.table_model.specs.Pieces.{IsPiece, blocks_in, end_to_end, index_of_pieces, piece_pages, row_of_piece}

-- ---- a piece fills its pages

fills_by : (f : Format) (piece : Bytes) → header_fault_by f piece ≡ None → length piece ≡ 4096 * pages_for (used_in piece)
unfolding header_fault_by
fills_by f piece none = eqb-true _ _ (not_false _ (or_parts _ _ (kept _ _ _ _ none).0).1)

whole_pages : (n : ℕ) → pages_for (4096 * n) ≡ n
unfolding pages_for
whole_pages n = omega arith

pub piece_fills : (piece : Bytes) → block_fault piece ≡ None → length piece ≡ 4096 * piece_pages piece
piece_fills piece none =
    let long = fills_by (format_in piece) piece (header_kept piece (format_in piece) refl none) in
    long ∙ ap (λ (n : ℕ). 4096 * n) (sym (ap pages_for long ∙ whole_pages (pages_for (used_in piece))))

pub pieces_fill : (pieces : List Bytes) → AllByRecursion IsPiece pieces → length (end_to_end pieces) ≡ 4096 * sum_by piece_pages pieces
pieces_fill [] each = refl
pieces_fill (piece ∷ more) each =
    omega (arith, length-append piece (end_to_end more), piece_fills piece each.0.whole, pieces_fill more each.1, sum_by-cons piece_pages piece more)

pub row_pages_are : (piece : Bytes) → (row_of_piece piece).pages ≡ piece_pages piece
unfolding row_of_piece
row_pages_are piece = refl

pub row_sum : (piece : Bytes) → (row_of_piece piece).sum ≡ fnv_of piece
unfolding row_of_piece
row_sum piece = refl

pub row_last : (piece : Bytes) → (row_of_piece piece).last ≡ last_key (block_in piece)
unfolding row_of_piece
row_last piece = refl

pub rows_of_index : (pieces : List Bytes) (ranges : List DeletedRange) → (index_of_pieces pieces ranges).rows ≡ map row_of_piece pieces
unfolding index_of_pieces
rows_of_index pieces ranges = refl

pub least_of_index : (pieces : List Bytes) (ranges : List DeletedRange) → (index_of_pieces pieces ranges).least ≡ first_key (joined (blocks_in pieces))
unfolding index_of_pieces
least_of_index pieces ranges = refl

pub ranges_of_index : (pieces : List Bytes) (ranges : List DeletedRange) → (index_of_pieces pieces ranges).ranges ≡ ranges
unfolding index_of_pieces
ranges_of_index pieces ranges = refl

-- ---- a block that is written is a piece

pub written_piece : (block : List Entry) → IsBlock Prefixed block → IsPiece (block_bytes block)
written_piece block is =
    let both = block_again block is in
    record {
      whole = both.0;
      sound = subst (IsBlock (format_in (block_bytes block))) (sym both.1) (subst (λ (f : Format). IsBlock f block) (sym (format_again block)) is);
    }

pub written_pieces : (blocks : List (List Entry)) → AllByRecursion (IsBlock Prefixed) blocks → AllByRecursion IsPiece (map block_bytes blocks)
written_pieces [] each = tt
written_pieces (block ∷ more) each = (written_piece block each.0, written_pieces more each.1)

pub pieces_are_read : (blocks : List (List Entry)) → AllByRecursion (IsBlock Prefixed) blocks → blocks_in (map block_bytes blocks) ≡ blocks
pieces_are_read [] each = refl
pieces_are_read (block ∷ more) each =
    ap₂ (λ (b : List Entry) (bs : List (List Entry)). b ∷ bs) (block_again block each.0).1 (pieces_are_read more each.1)

pub written_pages : (block : List Entry) → piece_pages (block_bytes block) ≡ block_pages block
written_pages block = ap pages_for (block_fills_pages block) ∙ whole_pages (block_pages block)

pub all_written_pages : (blocks : List (List Entry)) → sum_by piece_pages (map block_bytes blocks) ≡ sum_by block_pages blocks
all_written_pages [] = refl
all_written_pages (block ∷ more) =
    sum_by-cons piece_pages (block_bytes block) (map block_bytes more)
    ∙ ap₂ (λ (m n : ℕ). m + n) (written_pages block) (all_written_pages more)
    ∙ sym (sum_by-cons block_pages block more)

pub written_bytes : (blocks : List (List Entry)) → end_to_end (map block_bytes blocks) ≡ flat_map block_bytes blocks
written_bytes [] = refl
written_bytes (block ∷ more) = ap (λ (l : Bytes). block_bytes block ++ l) (written_bytes more)

pub written_row : (block : List Entry) → IsBlock Prefixed block → row_of_piece (block_bytes block) ≡ index_row_of block
unfolding row_of_piece index_row_of
written_row block is = λ i. record { pages = written_pages block i; sum = fnv_of (block_bytes block); last = last_key ((block_again block is).1 i) }

pub written_rows : (blocks : List (List Entry)) → AllByRecursion (IsBlock Prefixed) blocks → map row_of_piece (map block_bytes blocks) ≡ map index_row_of blocks
written_rows [] each = refl
written_rows (block ∷ more) each = ap₂ (λ (r : IndexRow) (rs : List IndexRow). r ∷ rs) (written_row block each.0) (written_rows more each.1)
