-- An output that has a place, and what is there once it is written.
use Rattle.std.proofs.Common.{◌≡◌, inl, inr, ◌∙◌, ℕ, ◌+◌, ◌-◌, ◌*◌, ◌<◌, ◌^◌, List, [], ◌∷◌, ◌++◌, length, get_or, refl, sym, ap, subst, arith}
use Rattle.std.specs.Prelude.{Some}
use Rattle.std.specs.List.{AllByRecursion}
use Rattle.std.specs.List.Sorted.{IsPermutation}
use Rattle.std.proofs.lemmas.List.{length_push}
use Rattle.block_model.specs.Block.{IsTable}
use Rattle.block_model.specs.Order.{Follow, is_any}
use Rattle.block_model.specs.Pages.{data_pages, index_length, index_length_with, page_bytes, pages_for}
use Rattle.block_model.specs.Places.{byte_of_page, pages_of}
use Rattle.byte_fields.specs.declared.parts.Row.{Row}
use Rattle.disk_trait.specs.Image.{Image}
use Rattle.disk_trait.specs.World.{Now, World, WriteMoves}
use Rattle.disk_trait.specs.declared.fault.DiskFault.{DiskFault}
use Rattle.disk_trait.specs.declared.fault.Op.TheVariants.{Read, Sync, Write}
use Rattle.entry_model.specs.Entries.{Entry, IsEntry, keys_of}
use Rattle.extent_map.specs.Taken.{Taken}
use Rattle.extent_model.specs.Extents.{AreApart, IsOnDevice}
use Rattle.extent_model.specs.Gaps.{first_gap}
use Rattle.filter_api.specs.Spellings.{Spelling}
use Rattle.filter_api.specs.declared.settings.Settings.{Settings}
use Rattle.filter_model.specs.Leaves.{Leaf}
use Rattle.store_search.specs.TablesAgree.{TableAgrees}
use Rattle.level_merge.specs.Outputs.{PlacesOutput, WritesPlaced, built_table, extent_at, last_row, no_row}
use Rattle.map_model.specs.SortedMap.{Bytes}
use Rattle.range_model.specs.Ranges.{DeletedRange}
use Rattle.range_model.specs.Sources.{Source}
use Rattle.table_file.specs.Building.{Built, source_in}
use Rattle.table_file.specs.Writing.{IsWriteOf, StandsWith, made_filter, made_row, opened_of}
use Rattle.table_model.proofs.OneTable.{one_table}
use Rattle.table_model.specs.Images.{IsTableOf}
use Rattle.table_model.specs.Tables.{FilterBytes, filter_bytes_of, source_pages, table_from}
use Rattle.table_model.specs.Written.{row_from}

-- ---- the row

some_index : (entries : List Entry) (ranges : List DeletedRange) → 0 < index_length_with entries ranges
unfolding index_length
some_index entries [] = omega arith
some_index entries (range ∷ later) = omega arith

pub some_pages : (filter_bytes : FilterBytes) (settings : Settings) (s : Source) → 0 < source_pages filter_bytes settings s
unfolding pages_for
some_pages filter_bytes settings s = omega (arith, some_index s.entries s.ranges)

row_pages : (level first : ℕ) (settings : Settings) (s : Source) (filter_bytes : Bytes)
    → pages_of (row_from level first settings s filter_bytes) ≡ data_pages s.entries + pages_for (index_length_with s.entries s.ranges) + pages_for (length filter_bytes)
unfolding row_from
row_pages level first settings s filter_bytes = refl

row_first : (level first : ℕ) (settings : Settings) (s : Source) (filter_bytes : Bytes) → (row_from level first settings s filter_bytes).first_page ≡ first
unfolding row_from
row_first level first settings s filter_bytes = refl

row_level : (level first : ℕ) (settings : Settings) (s : Source) (filter_bytes : Bytes) → (row_from level first settings s filter_bytes).level ≡ level
unfolding row_from
row_level level first settings s filter_bytes = refl

row_entries : (level first : ℕ) (settings : Settings) (s : Source) (filter_bytes : Bytes) → (row_from level first settings s filter_bytes).entries ≡ length s.entries
unfolding row_from
row_entries level first settings s filter_bytes = refl

-- the last row of some with one more
pub last_is : (rows : List Row) (row : Row) → last_row (rows ++ row ∷ []) ≡ row
last_is rows row = ap (λ (n : ℕ). get_or (rows ++ row ∷ []) n no_row) (place (length rows) (length (rows ++ row ∷ [])) (length_push rows row)) ∙ behind rows row
  where
    place : (n m : ℕ) → m ≡ n + 1 → m - 1 ≡ n
    place n m same = omega (arith, same)

    behind : (rows : List Row) (row : Row) → get_or (rows ++ row ∷ []) (length rows) no_row ≡ row
    behind [] row = refl
    behind (x ∷ rows) row = behind rows row

module _ (spelling : Spelling) (built_cutoff : ℕ → List Leaf → ℕ) (built : Built) (level page : ℕ) (row : Row) (row_is : row ≡ made_row spelling built_cutoff built level page) where
  abbrev need : ℕ
  need = source_pages (filter_bytes_of spelling built_cutoff) built.settings (source_in built)

  pub page_is : row.first_page ≡ page
  page_is = ap (λ (r : Row). r.first_page) row_is ∙ row_first level page built.settings (source_in built) (made_filter spelling built_cutoff built)

  pub level_is : row.level ≡ level
  level_is = ap (λ (r : Row). r.level) row_is ∙ row_level level page built.settings (source_in built) (made_filter spelling built_cutoff built)

  pub pages_are : pages_of row ≡ source_pages (filter_bytes_of spelling built_cutoff) built.settings (source_in built)
  pages_are = ap pages_of row_is ∙ row_pages level page built.settings (source_in built) (made_filter spelling built_cutoff built)

  pub row_again : row ≡ made_row spelling built_cutoff built level row.first_page
  row_again = row_is ∙ ap (λ (n : ℕ). made_row spelling built_cutoff built level n) (sym page_is)

  -- as `into_table` needs it
  pub row_own : row ≡ made_row spelling built_cutoff built row.level row.first_page
  row_own = row_again ∙ ap (λ (n : ℕ). made_row spelling built_cutoff built n row.first_page) (sym level_is)

  pub table_is : row.entries < 2 ^ 32 → 0 < length built.entries → AllByRecursion IsEntry built.entries → Follow is_any (keys_of built.entries) → IsTable built.entries
  table_is few some each rising =
      let long = ap (λ (r : Row). r.entries) row_is ∙ row_entries level page built.settings (source_in built) (made_filter spelling built_cutoff built) in
      record { sound = record { each = each; few = omega (arith, few, long) }; some = omega (arith, some); rising = rising }

  module _ (free taken : Taken) (old new : List Row) (place : first_gap free.pages free.extents (source_pages (filter_bytes_of spelling built_cutoff) built.settings (source_in built)) ≡ Some page)
      (on : IsOnDevice free.pages (page, source_pages (filter_bytes_of spelling built_cutoff) built.settings (source_in built)))
      (apart : AllByRecursion (AreApart (page, source_pages (filter_bytes_of spelling built_cutoff) built.settings (source_in built))) free.extents)
      (added : IsPermutation ((page, source_pages (filter_bytes_of spelling built_cutoff) built.settings (source_in built)) ∷ free.extents) taken.extents) (pages : taken.pages ≡ free.pages)
      (outputs : new ≡ old ++ row ∷ []) (table : IsTable built.entries) where
    extent_is : (page, source_pages (filter_bytes_of spelling built_cutoff) built.settings (source_in built)) ≡ extent_at row
    extent_is = ap (λ (n : ℕ). (page, n)) (sym pages_are) ∙ ap (λ (n : ℕ). (n, pages_of row)) (sym page_is)

    pub places : PlacesOutput spelling built_cutoff built level old new free taken row
    places = record {
      place = place ∙ ap (λ (n : ℕ). Some n) (sym page_is);
      row_is = row_again;
      pages_are = pages_are;
      table = table;
      on_device = subst (IsOnDevice free.pages) extent_is on;
      apart = subst (λ e. AllByRecursion (AreApart e) free.extents) extent_is apart;
      taken_is = subst (λ e. IsPermutation (e ∷ free.extents) taken.extents) extent_is added;
      pages = pages;
      outputs = outputs;
    }

    -- the same of the last of the rows
    pub places_last : PlacesOutput spelling built_cutoff built level old new free taken (last_row new)
    places_last = subst (PlacesOutput spelling built_cutoff built level old new free taken) (sym (ap last_row outputs ∙ last_is old row)) places

    pub writes : (before after : World) → WriteMoves (byte_of_page page) (page_bytes * source_pages (filter_bytes_of spelling built_cutoff) built.settings (source_in built)) before after
        → WritesPlaced spelling built_cutoff built level old new free taken before after
    writes before after moves =
        inr (
          row,
          places,
          subst (λ (n : ℕ). WriteMoves (byte_of_page n) (page_bytes * pages_of row) before after) (sym page_is)
              (subst (λ (n : ℕ). WriteMoves (byte_of_page page) (page_bytes * n) before after) (sym pages_are) moves),
        )

  -- ---- what is there

  held_there : (image : Image) → IsTableOf spelling (made_row spelling built_cutoff built level page) (table_from (filter_bytes_of spelling built_cutoff) built.settings level page (source_in built)) image
      → StandsWith spelling (opened_of built_cutoff built (made_row spelling built_cutoff built level page)) built.entries image
      → TableAgrees spelling (opened_of built_cutoff built row) (built_table spelling built_cutoff built level row.first_page) image
  held_there image is stands =
      let first : TableAgrees spelling (opened_of built_cutoff built (made_row spelling built_cutoff built level page)) (built_table spelling built_cutoff built level page) image =
      record { blocks = stands.0; stands = stands.1; table_is = one_table spelling _ _ _ image is (stands.0, stands.1.at, refl) } in
      subst (λ (n : ℕ). TableAgrees spelling (opened_of built_cutoff built row) (built_table spelling built_cutoff built level n) image) (sym page_is)
      (subst (λ (r : Row). TableAgrees spelling (opened_of built_cutoff built r) (built_table spelling built_cutoff built level page) image) (sym row_is) first)

  pub now_held : (after : World) (rows : List Row) → last_row rows ≡ row
      → Now (IsTableOf spelling (made_row spelling built_cutoff built level page) (table_from (filter_bytes_of spelling built_cutoff) built.settings level page (source_in built))) after
      → Now (StandsWith spelling (opened_of built_cutoff built (made_row spelling built_cutoff built level page)) built.entries) after
      → Now (TableAgrees spelling (opened_of built_cutoff built (last_row rows)) (built_table spelling built_cutoff built level (last_row rows).first_page)) after
  now_held after rows last is stands = λ image leaves.
      subst (λ (r : Row). TableAgrees spelling (opened_of built_cutoff built r) (built_table spelling built_cutoff built level r.first_page) image) (sym last)
      (held_there image (is image leaves) (stands image leaves))

-- ---- a write that failed

never_write : Read ≡ Write → ⊥
never_write same = absurd cc

never_sync : Read ≡ Sync → ⊥
never_sync same = absurd cc

pub write_op : (first second third : ℕ) (cause : DiskFault) → IsWriteOf first second third cause → cause.op ≡ Read → ⊥
write_op first second third cause (inl one) read = never_write (sym read ∙ ap (λ (f : DiskFault). f.op) one)
write_op first second third cause (inr (inl one)) read = never_write (sym read ∙ ap (λ (f : DiskFault). f.op) one)
write_op first second third cause (inr (inr (inl one))) read = never_write (sym read ∙ ap (λ (f : DiskFault). f.op) one)
write_op first second third cause (inr (inr (inr sync))) read = never_sync (sym read ∙ ap (λ (f : DiskFault). f.op) sync)
