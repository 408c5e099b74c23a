-- What is written apart from a row's pages changes nothing of its table.
use Rattle.std.proofs.Common.{◌≡◌, ◌*◌, ℕ, List, refl, sym, subst, arith}
use Rattle.byte_fields.specs.declared.parts.Row.{Row}
use Rattle.disk_trait.specs.Image.{Image, IsApart, Torn}
use Rattle.filter_api.specs.Spellings.{Spelling}
use Rattle.map_model.specs.SortedMap.{Bytes}
use Rattle.entry_model.specs.Entries.{Entry}
use Rattle.block_model.specs.Index.{index_bytes}
use Rattle.block_model.specs.Pages.{pages_for}
use Rattle.block_model.specs.Places.{byte_of_page, filter_page, index_page, pages_of}
use Rattle.block_model.proofs.Lengths.{in_pages}
use Rattle.table_model.specs.Images.{IsPart, IsTableAt}
use Rattle.table_model.specs.Laws.{IsApartFromRow, TableIsKept}
use Rattle.table_model.specs.Pieces.{end_to_end, index_of_pieces}
use Rattle.table_model.proofs.Pieces.{pieces_fill}
use Rattle.table_model.proofs.Shown.{inner, shown_kept}

part_kept : (page kept sum : ℕ) (bytes : Bytes) (at n : ℕ) (f g : Image) → IsApart (byte_of_page page) kept at n → Torn at n f g
    → IsPart page kept sum bytes f → IsPart page kept sum bytes g
part_kept page kept sum bytes at n f g apart torn part = record {
  shown = shown_kept (byte_of_page page) bytes at n f g (subst (λ (k : ℕ). IsApart (byte_of_page page) k at n) (sym part.size) apart) torn part.shown;
  size = part.size;
  sum = part.sum;
}

module _ (row : Row) (at n : ℕ) (apart : IsApartFromRow at n row) where
  index_apart : row.index_pages ≡ pages_for row.index_len → IsApart (byte_of_page (index_page row)) row.index_len at n
  index_apart pages = inner _ _ (byte_of_page row.first_page) (4096 * pages_of row) at n (omega arith) (omega (arith, pages, in_pages row.index_len)) apart

  filter_apart : row.filter_pages ≡ pages_for row.filter_len → IsApart (byte_of_page (filter_page row)) row.filter_len at n
  filter_apart pages = inner _ _ (byte_of_page row.first_page) (4096 * pages_of row) at n (omega arith) (omega (arith, pages, in_pages row.filter_len)) apart

pub at_kept : (spelling : Spelling) (row : Row) (blocks : List (List Entry)) (at n : ℕ) (f g : Image) → IsApartFromRow at n row → Torn at n f g
    → IsTableAt spelling row blocks f → IsTableAt spelling row blocks g
at_kept spelling row blocks at n f g apart torn t = record {
  pieces = t.pieces;
  read = t.read;
  each = t.each;
  table = t.table;
  blocks_shown = shown_kept (byte_of_page row.first_page) (end_to_end t.pieces) at n f g
      (inner _ _ (byte_of_page row.first_page) (4096 * pages_of row) at n (omega arith) (omega (arith, pieces_fill t.pieces t.each, t.data_pages)) apart) torn t.blocks_shown;
  data_pages = t.data_pages;
  index_pages = t.index_pages;
  filter_pages = t.filter_pages;
  ranges = t.ranges;
  index_sound = t.index_sound;
  index = part_kept (index_page row) row.index_len row.index_sum (index_bytes (index_of_pieces t.pieces t.ranges)) at n f g (index_apart row at n apart t.index_pages) torn t.index;
  filter_bytes = t.filter_bytes;
  filter_of_keys = t.filter_of_keys;
  filter = part_kept (filter_page row) row.filter_len row.filter_sum t.filter_bytes at n f g (filter_apart row at n apart t.filter_pages) torn t.filter;
  entries = t.entries;
}

pub kept_pieces : (spelling : Spelling) (row : Row) (blocks : List (List Entry)) (at n : ℕ) (f g : Image) (apart : IsApartFromRow at n row) (torn : Torn at n f g)
    (t : IsTableAt spelling row blocks f) → (at_kept spelling row blocks at n f g apart torn t).pieces ≡ t.pieces
unfolding at_kept
kept_pieces spelling row blocks at n f g apart torn t = refl

pub kept_ranges : (spelling : Spelling) (row : Row) (blocks : List (List Entry)) (at n : ℕ) (f g : Image) (apart : IsApartFromRow at n row) (torn : Torn at n f g)
    (t : IsTableAt spelling row blocks f) → (at_kept spelling row blocks at n f g apart torn t).ranges ≡ t.ranges
unfolding at_kept
kept_ranges spelling row blocks at n f g apart torn t = refl

pub table_kept : TableIsKept
unfolding at_kept
table_kept spelling row t at n f g apart torn is = (is.0, at_kept spelling row is.0 at n f g apart torn is.1, is.2)
