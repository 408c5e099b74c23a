-- The version in which the tables of a compaction are alone keeps the rules.
use Rattle.std.proofs.Common.{◌≡◌, ◌⊎◌, inl, inr, ◌++◌, List, [], ◌∷◌, map, subst, arith}
use Rattle.std.specs.List.{AllByRecursion}
use Rattle.std.proofs.lemmas.List.{map-append}
use Rattle.byte_fields.specs.declared.parts.Row.{Row}
use Rattle.extent_model.proofs.Lists.{Pairs, all_pairs, pairs_of}
use Rattle.extent_model.specs.Extents.{AreApart, IsOnDevice}
use Rattle.filter_api.specs.Ranges.{IsRowInRange}
use Rattle.manifest.specs.Manifest.{Manifest}
use Rattle.manifest_model.proofs.Rows.{rows_keep}
use Rattle.manifest_model.specs.Laws.{IsVersion, RowFits}
use Rattle.manifest_model.specs.Rows.{AreTableRows, IsNoDeeper, extent_of}
use Rattle.manifest_model.specs.Version.{log_page_of}
use Rattle.store_core.specs.Compacting.{AreCompact, compacted_manifest}
use Rattle.store_core.specs.Flushing.{other_log_page}
use Rattle.store_core.proofs.InstallLists.{all_second, pairs_second}

level_rows : (row : Row) (rows : List Row) → row.level ≡ 6 → AllByRecursion (λ (r : Row). r.level ≡ 6) rows → AllByRecursion (IsNoDeeper row) rows
level_rows row [] first all = tt
level_rows row (r ∷ rows) first all = (omega (arith, first, all.0), level_rows row rows first all.1)

one_level : (rows : List Row) → AllByRecursion (λ (r : Row). r.level ≡ 6) rows → Pairs IsNoDeeper rows
one_level [] all = tt
one_level (row ∷ rows) all = (level_rows row rows all.0 all.1, one_level rows all.1)

module _ (m : Manifest) (rows : List Row) (is : IsVersion m.version) (compact : AreCompact m.version rows) (fits : AllByRecursion RowFits rows)
    (range : AllByRecursion IsRowInRange rows) where
  parts : map extent_of (m.version.rows ++ rows) ≡ map extent_of m.version.rows ++ map extent_of rows
  parts = map-append extent_of m.version.rows rows

  rows_are : AreTableRows m.version.pages rows
  rows_are = record {
    each = compact.each;
    levels = all_pairs IsNoDeeper rows (one_level rows compact.deepest);
    laid = record {
      on_device = all_second (IsOnDevice m.version.pages) (map extent_of m.version.rows) (map extent_of rows) (subst (AllByRecursion (IsOnDevice m.version.pages)) parts compact.laid.on_device);
      apart = all_pairs AreApart (map extent_of rows) (pairs_second AreApart (map extent_of m.version.rows) (map extent_of rows)
          (subst (Pairs AreApart) parts (pairs_of AreApart (map extent_of (m.version.rows ++ rows)) compact.laid.apart)));
    };
  }

  other_area : (other_log_page m.version ≡ log_page_of 0) ⊎ (other_log_page m.version ≡ log_page_of 1)
  other_area = elim is.log_page [ inl first ↦ inr (omega (arith, first)) | inr second ↦ inl (omega (arith, second)) ]

  pub compacted_is_version : IsVersion (compacted_manifest m rows).version
  compacted_is_version = record {
    few_tables = compact.few;
    some_epoch = is.some_epoch;
    epoch = is.epoch;
    some_pages = is.some_pages;
    few_pages = is.few_pages;
    hash_bits = is.hash_bits;
    real_bits = is.real_bits;
    ratio = is.ratio;
    log_page = other_area;
    rows = fits;
    settings = range;
    placed = rows_keep.unbroken (compacted_manifest m rows).version rows_are;
  }
