-- What is planned for a flush: the row of the table, and the version in which it is the first.
use Rattle.std.proofs.Common.{◌≡◌, ◌∙◌, ◌<◌, ◌≤◌, ◌+◌, ◌^◌, ℕ, List, length, refl, sym, ap, subst, arith, map}
use Rattle.std.specs.Prelude.{Some}
use Rattle.std.specs.List.{AllByRecursion}
use Rattle.std.proofs.lemmas.List.{map-append}
use Rattle.block_model.specs.Block.{IsTable}
use Rattle.block_model.specs.Pages.{data_pages, index_length_with, pages_for}
use Rattle.block_model.specs.Places.{pages_of}
use Rattle.byte_fields.specs.declared.parts.Row.{Row}
use Rattle.entry_model.specs.Entries.{Entry, keys_of}
use Rattle.extent_model.proofs.Free.{gap_is_free}
use Rattle.extent_model.specs.Extents.{AreApart, AreLaid, IsOnDevice}
use Rattle.extent_model.specs.Gaps.{first_gap}
use Rattle.filter_api.specs.Ranges.{InRange, IsRowInRange}
use Rattle.filter_api.specs.Spellings.{Spelling}
use Rattle.filter_api.specs.declared.settings.Settings.{Settings}
use Rattle.filter_model.specs.Leaves.{Leaf}
use Rattle.image_model.specs.Stands.{settings_of}
use Rattle.key_base.specs.Limits.{max_ratio}
use Rattle.manifest.specs.Manifest.{Manifest}
use Rattle.manifest_model.specs.Laws.{IsVersion, RowFits}
use Rattle.manifest_model.specs.Rows.{IsTableRow, extent_of}
use Rattle.map_model.specs.SortedMap.{Bytes}
use Rattle.range_model.specs.Sources.{Source}
use Rattle.state_model.proofs.Places.{entries_in_pages}
use Rattle.table_file.specs.Building.{Built, source_in}
use Rattle.table_model.specs.Tables.{FilterBytes, filter_bytes_of, source_pages}
use Rattle.table_model.specs.Written.{row_from}
use Rattle.store_core.specs.Flushing.{IsPlan, need_under}
use Rattle.store_core.specs.Running.{extents_with}
use Rattle.store_core.proofs.Flushes.{some_pages}
use Rattle.store_core.proofs.NextVersions.{next_is_version}
use Rattle.store_core.proofs.PlannedRows.{first_of_both}

-- ---- the row of a table of level 0

row_of_table : (first : ℕ) (settings : Settings) (s : Source) (filter_bytes : Bytes) → IsTable s.entries → IsTableRow (row_from 0 first settings s filter_bytes)
unfolding row_from
row_of_table first settings s filter_bytes table = record {
  level = omega arith;
  data_pages = omega (arith, table.some, entries_in_pages s.entries);
  index_pages = refl;
  filter_pages = refl;
  entries = table.some;
}

row_pages : (first : ℕ) (settings : Settings) (s : Source) (filter_bytes : Bytes)
    → pages_of (row_from 0 first settings s filter_bytes) ≡ data_pages s.entries + pages_for (index_length_with s.entries s.ranges) + pages_for (length filter_bytes)
unfolding row_from
row_pages first settings s filter_bytes = refl

pub row_level : (first : ℕ) (settings : Settings) (s : Source) (filter_bytes : Bytes) → (row_from 0 first settings s filter_bytes).level ≡ 0
unfolding row_from
row_level first settings s filter_bytes = refl

-- it has the settings that its table was built with
row_range : (first : ℕ) (settings : Settings) (s : Source) (filter_bytes : Bytes) → InRange settings → settings.ratio ≤ max_ratio → IsRowInRange (row_from 0 first settings s filter_bytes)
unfolding row_from
row_range first settings s filter_bytes in_range ratio = record { settings = in_range; ratio = ratio }

-- a row whose numbers have the widths of its fields
pub row_fits : (row : Row) → row.level < 2 ^ 8 → row.first_page < 2 ^ 32 → row.data_pages < 2 ^ 32 → row.index_pages < 2 ^ 32 → row.filter_pages < 2 ^ 32 → row.entries < 2 ^ 32
    → row.index_len < 2 ^ 64 → row.filter_len < 2 ^ 64 → row.index_sum < 2 ^ 64 → row.filter_sum < 2 ^ 64 → row.hash_bits < 2 ^ 8 → row.real_bits < 2 ^ 8 → row.ratio < 2 ^ 16 → RowFits row
row_fits row level first blocks index filter entries index_len filter_len index_sum filter_sum hash real ratio = (
  omega (arith, level),
  (
    omega arith,
    (
      omega (arith, first),
      (
        omega (arith, blocks),
        (
          omega (arith, index),
          (
            omega (arith, filter),
            (
              omega (arith, entries),
              (
                omega (arith, index_len),
                (
                  omega (arith, filter_len),
                  (omega (arith, index_sum), (omega (arith, filter_sum), (omega (arith, hash), (omega (arith, real), (omega (arith, ratio), (omega arith, tt)))))),
                ),
              ),
            ),
          ),
        ),
      ),
    ),
  ),
)

-- ---- a plan

module _ (spelling : Spelling) (built_cutoff : ℕ → List Leaf → ℕ) (m : Manifest) (outputs : List Row) (entries : List Entry) (parts : Built) (row : Row) (next : Manifest) (is : IsVersion m.version)
    (laid : AreLaid m.version.pages (extents_with m.version outputs)) (plan : IsPlan spelling built_cutoff m outputs entries parts row next) where
  abbrev filter_bytes : FilterBytes
  filter_bytes = filter_bytes_of spelling built_cutoff

  abbrev bytes : Bytes
  bytes = filter_bytes_of spelling built_cutoff parts.settings (keys_of parts.entries)

  row_is : row ≡ row_from 0 row.first_page parts.settings (source_in parts) (filter_bytes_of spelling built_cutoff parts.settings (keys_of parts.entries))
  row_is = plan.row_is

  need_is : need_under (filter_bytes_of spelling built_cutoff) m.version entries ≡ source_pages (filter_bytes_of spelling built_cutoff) parts.settings (source_in parts)
  need_is = sym (ap (λ (b : Built). source_pages filter_bytes b.settings (source_in b)) plan.parts_are)

  pub pages_are : pages_of row ≡ source_pages (filter_bytes_of spelling built_cutoff) parts.settings (source_in parts)
  pages_are = ap pages_of row_is ∙ row_pages row.first_page parts.settings (source_in parts) bytes

  pub plan_is_free : IsOnDevice m.version.pages (row.first_page, source_pages (filter_bytes_of spelling built_cutoff) parts.settings (source_in parts))
      × AllByRecursion (AreApart (row.first_page, source_pages (filter_bytes_of spelling built_cutoff) parts.settings (source_in parts))) (extents_with m.version outputs)
  plan_is_free =
      gap_is_free m.version.pages (extents_with m.version outputs) (source_pages filter_bytes parts.settings (source_in parts)) row.first_page (omega (arith, need_is, some_pages filter_bytes (settings_of m.version) entries))
      laid.on_device (subst (λ (n : ℕ). first_gap m.version.pages (extents_with m.version outputs) n ≡ Some row.first_page) need_is plan.place)

  -- so are those of its row
  pub row_free : IsOnDevice m.version.pages (extent_of row) × AllByRecursion (AreApart (extent_of row)) (extents_with m.version outputs)
  row_free =
      subst (λ (n : ℕ). IsOnDevice m.version.pages (row.first_page, n) × AllByRecursion (AreApart (row.first_page, n)) (extents_with m.version outputs)) (sym pages_are) plan_is_free

  -- the version to come keeps the rules
  pub plan_is_version : IsTable entries → RowFits row → IsVersion next.version
  plan_is_version table fits =
      let table_of_parts : IsTable parts.entries = subst IsTable (sym (ap (λ (b : Built). b.entries) plan.parts_are)) table in
      let set : parts.settings ≡ settings_of m.version = ap (λ (b : Built). b.settings) plan.parts_are in
      let in_range : InRange (settings_of m.version) = record { hash_bits = is.hash_bits; real_bits = is.real_bits } in
      let range : IsRowInRange row = subst IsRowInRange (sym row_is)
      (row_range row.first_page parts.settings (source_in parts) bytes (subst InRange (sym set) in_range) (subst (λ (s : Settings). s.ratio ≤ max_ratio) (sym set) (omega (arith, is.ratio)))) in
      let free_rows = first_of_both (AreApart (extent_of row)) (map extent_of m.version.rows) (map extent_of outputs)
      (subst (AllByRecursion (AreApart (extent_of row))) (map-append extent_of m.version.rows outputs) row_free.1) in
      subst (λ (n : Manifest). IsVersion n.version) (sym plan.next_is)
      (next_is_version m row is plan.few (ap (λ (r : Row). r.level) row_is ∙ row_level row.first_page parts.settings (source_in parts) bytes)
      (subst IsTableRow (sym row_is) (row_of_table row.first_page parts.settings (source_in parts) bytes table_of_parts)) fits range row_free.0 free_rows)

  -- and its table ends on its device
  pub plan_fits : row.first_page + source_pages (filter_bytes_of spelling built_cutoff) parts.settings (source_in parts) ≤ next.version.pages
  plan_fits = omega (arith, plan_is_free.0.to, ap (λ (n : Manifest). n.version.pages) plan.next_is)
