-- A table that is written is there.
use Rattle.std.proofs.Common.{◌≡◌, ℕ, List, length, refl, sym, ap, ◌∙◌, subst}
use Rattle.std.specs.Prelude.{map}
use Rattle.disk_trait.specs.Image.{Image, Shows}
use Rattle.byte_fields.specs.Sums.{fnv_of}
use Rattle.filter_api.specs.Spellings.{Spelling}
use Rattle.filter_api.specs.declared.settings.Settings.{Settings}
use Rattle.map_model.specs.SortedMap.{Bytes}
use Rattle.entry_model.specs.Entries.{Entry, keys_of}
use Rattle.block_model.specs.Block.{IsTable, block_bytes, data_bytes}
use Rattle.range_model.specs.Ranges.{DeletedRange}
use Rattle.range_model.specs.Sources.{Source}
use Rattle.block_model.specs.Index.{AreIndexRanges, Index, IsIndex, index_bytes, index_with}
use Rattle.block_model.specs.Pages.{blocks_of, data_pages, first_key}
use Rattle.block_model.specs.Places.{byte_of_page, index_page}
use Rattle.block_model.proofs.Cutting.{blocks_are_sound, blocks_joined}
use Rattle.block_model.proofs.Lengths.{index_long}
use Rattle.block_model.proofs.TableIndex.{index_sound}
use Rattle.table_model.specs.Images.{IsFilterOfKeys, IsPart, IsTableAt, IsTableOf, table_with}
use Rattle.table_model.specs.Tables.{Table, source_pages, table_from}
use Rattle.byte_fields.specs.declared.parts.Row.{Row}
use Rattle.table_model.specs.Laws.{TableStands}
use Rattle.table_model.specs.Pieces.{blocks_in, index_of_pieces}
use Rattle.table_model.proofs.Pieces.{all_written_pages, pieces_are_read, written_bytes, written_pieces, written_rows}
use Rattle.block_model.specs.Laws.{joined}
use Rattle.table_model.specs.Written.{ArePartsShown, row_from}

same_index : (entries : List Entry) (ranges : List DeletedRange) → IsTable entries → index_with entries ranges ≡ index_of_pieces (map block_bytes (blocks_of entries)) ranges
unfolding index_with index_of_pieces
same_index entries ranges is =
    let each = blocks_are_sound entries is in
    let all : entries ≡ joined (blocks_in (map block_bytes (blocks_of entries))) = sym (ap joined (pieces_are_read (blocks_of entries) each) ∙ blocks_joined entries) in
    λ i. record { least = first_key (all i); rows = sym (written_rows (blocks_of entries) each) i; ranges = ranges }

module _ (level first_page : ℕ) (settings : Settings) (s : Source) (filter_bytes : Bytes) (image : Image) where
  abbrev row : Row
  row = row_from level first_page settings s filter_bytes

  index_there : (index : Index) → index_with s.entries s.ranges ≡ index → ArePartsShown row s filter_bytes image
      → IsPart (index_page row) row.index_len row.index_sum (index_bytes index) image
  unfolding row_from
  index_there index same shown = record {
    shown = subst (λ (x : Index). Shows (byte_of_page (index_page row)) (index_bytes x) image) same shown.index;
    size = ap (λ (x : Index). length (index_bytes x)) (sym same) ∙ index_long s.entries s.ranges;
    sum = ap (λ (x : Index). fnv_of (index_bytes x)) (sym same);
  }

  blocks_stand : (spelling : Spelling) → IsTable s.entries → AreIndexRanges s.ranges → IsFilterOfKeys spelling settings (keys_of s.entries) filter_bytes
      → ArePartsShown row s filter_bytes image → IsTableAt spelling row (blocks_of s.entries) image
  unfolding row_from data_bytes data_pages
  blocks_stand spelling is are spelled shown = record {
    pieces = map block_bytes (blocks_of s.entries);
    read = pieces_are_read (blocks_of s.entries) (blocks_are_sound s.entries is);
    each = written_pieces (blocks_of s.entries) (blocks_are_sound s.entries is);
    table = subst IsTable (sym (blocks_joined s.entries)) is;
    blocks_shown = subst (λ (bytes : Bytes). Shows (byte_of_page first_page) bytes image) (sym (written_bytes (blocks_of s.entries))) shown.blocks;
    data_pages = all_written_pages (blocks_of s.entries);
    index_pages = refl;
    filter_pages = refl;
    ranges = s.ranges;
    index_sound = subst (IsIndex (data_pages s.entries)) (same_index s.entries s.ranges is) (index_sound s.entries s.ranges is are);
    index = index_there (index_of_pieces (map block_bytes (blocks_of s.entries)) s.ranges) (same_index s.entries s.ranges is) shown;
    filter_bytes = filter_bytes;
    filter_of_keys = subst (λ (es : List Entry). IsFilterOfKeys spelling settings (keys_of es) filter_bytes) (sym (blocks_joined s.entries)) spelled;
    filter = record { shown = shown.filter; size = refl; sum = refl };
    entries = ap length (blocks_joined s.entries);
  }

  pub stands : (spelling : Spelling) → IsTable s.entries → AreIndexRanges s.ranges → IsFilterOfKeys spelling settings (keys_of s.entries) filter_bytes
      → ArePartsShown row s filter_bytes image → (t : Table) → t ≡ table_with row (blocks_of s.entries) s.ranges → IsTableOf spelling row t image
  unfolding blocks_stand
  stands spelling is are spelled shown t same = (blocks_of s.entries, blocks_stand spelling is are spelled shown, same)

pub table_stands : TableStands
unfolding row_from
table_stands spelling filter_bytes settings level first_page s image is are spelled shown =
    stands level first_page settings s (filter_bytes settings (keys_of s.entries)) image spelling is are spelled shown (table_from filter_bytes settings level first_page s)
    (λ i. record {
      level = level;
      first_page = first_page;
      pages = source_pages filter_bytes settings s;
      blocks = length (blocks_of s.entries);
      settings = settings;
      entries = sym (blocks_joined s.entries) i;
      ranges = s.ranges;
    })
