-- A plan is made of a gap that was found, and of the parts of a table.
use Rattle.std.proofs.Common.{◌≡◌, inl, inr, ◌∙◌, ◌<◌, ◌≤◌, ◌+◌, ℕ, List, [], length, refl, sym, ap, subst, arith}
use Rattle.std.specs.Prelude.{Some}
use Rattle.std.specs.List.Sorted.{IsPermutation}
use Rattle.std.proofs.lemmas.Bool.{cases_lt}
use Rattle.byte_fields.specs.declared.parts.Row.{Row}
use Rattle.entry_model.specs.Entries.{Entry, keys_of}
use Rattle.extent_model.proofs.AnyOrder.{first_same, largest_same}
use Rattle.extent_model.proofs.Free.{gap_is_free}
use Rattle.extent_model.proofs.Rooms.{gap_small}
use Rattle.extent_model.specs.Extents.{AreLaid, Extent}
use Rattle.extent_model.specs.Gaps.{first_gap, largest_gap}
use Rattle.filter_api.specs.Spellings.{Spelling}
use Rattle.filter_api.specs.declared.settings.Settings.{Settings}
use Rattle.filter_model.specs.Leaves.{Leaf}
use Rattle.image_model.specs.Stands.{settings_of}
use Rattle.key_base.specs.Limits.{last_epoch}
use Rattle.manifest.specs.Manifest.{Manifest}
use Rattle.manifest_model.specs.Laws.{IsVersion}
use Rattle.manifest_model.specs.Version.{Version}
use Rattle.map_model.specs.SortedMap.{Bytes}
use Rattle.range_model.specs.Sources.{Source}
use Rattle.table_file.specs.Building.{Built, source_in}
use Rattle.table_file.specs.Writing.{made_row}
use Rattle.table_model.specs.Tables.{FilterBytes, filter_bytes_of, source_pages}
use Rattle.table_model.specs.Written.{row_from}
use Rattle.store_core.specs.Flushing.{IsPlan, IsPlanLimit, need_under, next_manifest}
use Rattle.store_core.specs.Running.{extents_with}
use Rattle.store_core.specs.declared.error.Limit.TheVariants as limit
use Rattle.store_core.proofs.Flushes.{some_pages}

-- the gaps beside the extents that are taken with the outputs of a merge, by these in some order
module _ (v : Version) (outputs : List Row) (pages : ℕ) (taken : List Extent) (pages_are : pages ≡ v.pages) (same : IsPermutation (extents_with v outputs) taken) where
  pub first_gap_is : (need : ℕ) → first_gap v.pages (extents_with v outputs) need ≡ first_gap pages taken need
  first_gap_is need = first_same v.pages need (extents_with v outputs) taken same ∙ ap (λ (n : ℕ). first_gap n taken need) (sym pages_are)

  pub largest_gap_is : largest_gap v.pages (extents_with v outputs) ≡ largest_gap pages taken
  largest_gap_is = largest_same v.pages (extents_with v outputs) taken same ∙ ap (λ (n : ℕ). largest_gap n taken) (sym pages_are)

-- parts of the settings of a version
pub parts_of : (seen m : Manifest) (view : seen ≡ m) (entries : List Entry) (parts : Built) → parts ≡ record { settings = settings_of seen.version; entries = entries; ranges = [] }
    → parts ≡ record { settings = settings_of m.version; entries = entries; ranges = [] }
parts_of seen m view entries parts are = subst (λ (x : Manifest). parts ≡ record { settings = settings_of x.version; entries = entries; ranges = [] }) view are

page_of_row : (first : ℕ) (settings : Settings) (s : Source) (filter_bytes : Bytes) → (row_from 0 first settings s filter_bytes).first_page ≡ first
unfolding row_from
page_of_row first settings s filter_bytes = refl

module _ (spelling : Spelling) (built_cutoff : ℕ → List Leaf → ℕ) (m : Manifest) (outputs : List Row) (entries : List Entry) (parts : Built) (page need : ℕ) (is : IsVersion m.version)
    (laid : AreLaid m.version.pages (extents_with m.version outputs)) (few : length m.version.rows < 1024) (parts_are : parts ≡ record { settings = settings_of m.version; entries = entries; ranges = [] })
    (need_is : need ≡ source_pages (filter_bytes_of spelling built_cutoff) parts.settings (source_in parts))
    (gap : first_gap m.version.pages (extents_with m.version outputs) need ≡ Some page) where
  abbrev filter_bytes : FilterBytes
  filter_bytes = filter_bytes_of spelling built_cutoff

  under_is : need ≡ need_under (filter_bytes_of spelling built_cutoff) m.version entries
  under_is = need_is ∙ ap (λ (b : Built). source_pages filter_bytes b.settings (source_in b)) parts_are

  pub page_fits : page + source_pages (filter_bytes_of spelling built_cutoff) parts.settings (source_in parts) ≤ 16777216
  page_fits =
      let some : 0 < need = omega (arith, under_is, some_pages filter_bytes (settings_of m.version) entries) in
      let free = gap_is_free m.version.pages (extents_with m.version outputs) need page some laid.on_device gap in
      omega (arith, free.0.to, is.few_pages, need_is)

  has_room : need ≤ largest_gap m.version.pages (extents_with m.version outputs)
  has_room = elim (cases_lt (largest_gap m.version.pages (extents_with m.version outputs)) need) [
    | inl less ↦ absurd (let never = sym (gap_small m.version.pages (extents_with m.version outputs) need less) ∙ gap in cc)
    | inr room ↦ room
  ]

  pub no_epoch : m.version.epoch ≡ last_epoch → IsPlanLimit (filter_bytes_of spelling built_cutoff) m.version outputs entries limit.Epoch
  no_epoch last = (few, omega (arith, has_room, under_is), last)

  pub plan_is : (row : Row) (next : Manifest) → row ≡ made_row spelling built_cutoff parts 0 page → next ≡ next_manifest m row → m.version.epoch < last_epoch
      → IsPlan spelling built_cutoff m outputs entries parts row next
  plan_is row next row_is next_is epoch =
      let at : row.first_page ≡ page = ap (λ (r : Row). r.first_page) row_is ∙ page_of_row page parts.settings (source_in parts) (filter_bytes parts.settings (keys_of parts.entries)) in
      record {
        few = few;
        parts_are = parts_are;
        place = ap (first_gap m.version.pages (extents_with m.version outputs)) (sym under_is) ∙ gap ∙ ap (λ (n : ℕ). Some n) (sym at);
        epoch = epoch;
        row_is = row_is ∙ ap (made_row spelling built_cutoff parts 0) (sym at);
        next_is = next_is;
      }
