-- The table that parts make is the one that is opened from them.
use Rattle.std.proofs.Common.{◌≡◌, ◌≤◌, ◌*◌, ℕ, List, length, refl, sym, ap, ◌∙◌, subst}
use Rattle.std.proofs.lemmas.List.{length-map}
use Rattle.byte_fields.specs.Sums.{fnv_of}
use Rattle.byte_fields.specs.declared.parts.Row.{Row}
use Rattle.disk_trait.specs.Image.{Image}
use Rattle.filter_api.specs.Ranges.{InRange, row_settings}
use Rattle.filter_api.specs.Spellings.{MayStand, Spelling, SpellsOne}
use Rattle.filter_api.specs.declared.settings.Settings.{Settings}
use Rattle.filter_model.specs.Leaves.{Filter, Leaf}
use Rattle.map_model.specs.SortedMap.{Bytes}
use Rattle.entry_model.specs.Entries.{Entry, keys_of}
use Rattle.range_model.specs.Sources.{Source}
use Rattle.block_model.specs.Index.{Index, index_bytes, index_with, row_pages}
use Rattle.block_model.specs.IndexReading.{index_fault, index_in}
use Rattle.block_model.specs.Pages.{data_pages, index_length_with, pages_for}
use Rattle.block_model.specs.Places.{byte_of_page, end_page, filter_page, index_page}
use Rattle.block_model.proofs.IndexesRead.{index_again}
use Rattle.block_model.proofs.Lengths.{index_long}
use Rattle.block_model.proofs.TableIndex.{index_sound}
use Rattle.block_model.specs.Laws.{joined}
use Rattle.table_model.specs.Images.{IsTableAt}
use Rattle.table_model.specs.Tables.{Table, filter_bytes_of}
use Rattle.table_model.specs.Damage.{filter_part, index_part}
use Rattle.table_model.specs.Written.{ArePartsShown, row_from}
use Rattle.table_model.proofs.Shown.{shown_is}
use Rattle.table_file.specs.Opened.{IsOfRow, IsOpen}
use Rattle.table_file.specs.Parts.{ArePartsOf, filter_of}
use Rattle.table_file.specs.Writing.{AreWritten, StandsWith}
use Rattle.table_file.proofs.Stands.{opened_stands}
use Rattle.table_file.proofs.Written.{stands_shown, written_shown}

module _ (spelling : Spelling) (built_cutoff : ℕ → List Leaf → ℕ) (settings : Settings) (s : Source) (count : ℕ) (blocks : Bytes) (index : Index) (index_bytes_there : Bytes)
    (filter : Filter) (filter_there : Bytes) (parts : ArePartsOf spelling built_cutoff settings s count blocks index index_bytes_there filter filter_there) (level first : ℕ) where
  abbrev bytes : Bytes
  bytes = filter_bytes_of spelling built_cutoff settings (keys_of s.entries)

  abbrev row : Row
  row = row_from level first settings s (filter_bytes_of spelling built_cutoff settings (keys_of s.entries))

  pub of_row : (r : Row) → r ≡ row_from level first settings s (filter_bytes_of spelling built_cutoff settings (keys_of s.entries)) → end_page r ≤ 16777216 → r.ratio ≤ 65535 → IsOfRow (record { row = r; index = index; filter = filter })
  unfolding row_from
  of_row r is within ratio =
      let pages = subst (λ (x : Row). (x.index_pages ≡ pages_for x.index_len) × (x.filter_pages ≡ pages_for x.filter_len)) (sym is) (refl, refl) in
      record {
        fits = record { index_pages = pages.0; filter_pages = pages.1; within = within };
        range = record { settings = subst (λ (x : Row). InRange (row_settings x)) (sym is) parts.range; ratio = ratio };
        pages = ap (λ (x : Index). row_pages x.rows) parts.index_is ∙ (index_sound s.entries s.ranges parts.table parts.ranges).all_pages ∙ sym (ap (λ (x : Row). x.data_pages) is);
      }

  module _ (image : Image) (shown : ArePartsShown row s bytes image) where
    index_there : index_part row image ≡ index_bytes (index_with s.entries s.ranges)
    unfolding row_from
    index_there = shown_is (byte_of_page (index_page row)) (index_length_with s.entries s.ranges) (index_bytes (index_with s.entries s.ranges)) image (index_long s.entries s.ranges) shown.index

    filter_is_there : filter_part row image ≡ bytes
    unfolding row_from
    filter_is_there = shown_is (byte_of_page (filter_page row)) (length bytes) bytes image refl shown.filter

    made_open : IsOpen spelling (record { row = row; index = index_with s.entries s.ranges; filter = filter_of built_cutoff settings (keys_of s.entries) }) image
    unfolding row_from
    made_open =
        let again = index_again (data_pages s.entries) (index_with s.entries s.ranges) (index_sound s.entries s.ranges parts.table parts.ranges) in
        let stand = subst (λ (f : Filter). MayStand f.hash_bits f.real_bits f.cutoff f.leaves) parts.filter_is parts.may_stand in
        record {
          index_sum = ap fnv_of (sym index_there);
          index_kept = ap (index_fault (data_pages s.entries)) index_there ∙ again.0;
          index_is = sym (ap index_in index_there ∙ again.1);
          filter_sum = ap fnv_of (sym filter_is_there);
          filter_is = record { may_stand = stand; bytes_are = filter_is_there };
          many = length-map (keys_of s.entries) _ ∙ length-map s.entries _;
          wide = record { hash = refl; real = refl };
        }

  pub table_open : (r : Row) → r ≡ row_from level first settings s (filter_bytes_of spelling built_cutoff settings (keys_of s.entries)) → (image : Image)
      → ArePartsShown r s (filter_bytes_of spelling built_cutoff settings (keys_of s.entries)) image
      → IsOpen spelling (record { row = r; index = index_with s.entries s.ranges; filter = filter_of built_cutoff settings (keys_of s.entries) }) image
  table_open r is image =
      subst (λ (x : Row). ArePartsShown x s bytes image → IsOpen spelling (record { row = x; index = index_with s.entries s.ranges; filter = filter_of built_cutoff settings (keys_of s.entries) }) image) (sym is) (made_open image)

  pub shown_table : (r : Row) → r ≡ row_from level first settings s (filter_bytes_of spelling built_cutoff settings (keys_of s.entries)) → (image : Image)
      → ArePartsShown r s (filter_bytes_of spelling built_cutoff settings (keys_of s.entries)) image
      → (made : List (List Entry)) × IsTableAt spelling r made image × (joined made ≡ s.entries)
  shown_table r is image =
      subst (λ (x : Row). ArePartsShown x s bytes image → (made : List (List Entry)) × IsTableAt spelling x made image × (joined made ≡ s.entries)) (sym is)
      (λ shown.
      let there = stands_shown spelling built_cutoff settings s count blocks index index_bytes_there filter filter_there parts level first (4096 * first) refl image shown in
      (there.0, there.1, sym (ap (λ (t : Table). t.entries) there.2)))

  -- where the parts are written, the table that is made of them is there
  pub made_stands : SpellsOne spelling → (image : Image) → AreWritten row s bytes image
      → StandsWith spelling (record { row = row; index = index_with s.entries s.ranges; filter = filter_of built_cutoff settings (keys_of s.entries) }) s.entries image
  made_stands one image are =
      let shown = written_shown row s bytes image are in
      let there = shown_table row refl image shown in
      (there.0, opened_stands spelling _ there.0 image one (table_open row refl image shown) there.1, there.2)
