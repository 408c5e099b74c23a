-- The version in which the row of a new table is the first keeps the rules.
use Rattle.std.proofs.Common.{◌≡◌, ◌⊎◌, inl, inr, ◌<◌, List, [], ◌∷◌, length, arith, map}
use Rattle.std.specs.List.{AllByRecursion}
use Rattle.byte_fields.specs.declared.parts.Row.{Row}
use Rattle.extent_model.specs.Extents.{AreApart, IsOnDevice}
use Rattle.filter_api.specs.Ranges.{IsRowInRange}
use Rattle.manifest.specs.Manifest.{Manifest}
use Rattle.extent_model.proofs.Lists.{all_pairs, pairs_of}
use Rattle.manifest_model.proofs.Rows.{rows_keep}
use Rattle.manifest_model.specs.Laws.{IsVersion, RowFits}
use Rattle.manifest_model.specs.Rows.{AreTableRows, IsNoDeeper, IsTableRow, extent_of}
use Rattle.manifest_model.specs.Version.{log_page_of}
use Rattle.store_core.specs.Flushing.{next_manifest, other_log_page}

-- a version with a row of level 0 before all others, where its pages are free and its numbers fit
module _ (m : Manifest) (row : Row) (is : IsVersion m.version) (few : length m.version.rows < 1024) (top : row.level ≡ 0) (one : IsTableRow row) (fits : RowFits row) (range : IsRowInRange row)
    (on_device : IsOnDevice m.version.pages (extent_of row)) (free : AllByRecursion (AreApart (extent_of row)) (map extent_of m.version.rows)) where
  not_deeper : (rows : List Row) → AllByRecursion (IsNoDeeper row) rows
  not_deeper [] = tt
  not_deeper (other ∷ rows) = (omega (arith, top), not_deeper rows)

  other_area : (other_log_page m.version ≡ log_page_of 0) ⊎ (other_log_page m.version ≡ log_page_of 1)
  other_area = elim is.log_page [ inl first ↦ inr (omega (arith, first)) | inr second ↦ inl (omega (arith, second)) ]

  old : AreTableRows m.version.pages m.version.rows
  old = rows_keep.kept m.version is.placed

  rows_are : AreTableRows m.version.pages (row ∷ m.version.rows)
  rows_are = record {
    each = (one, old.each);
    levels = all_pairs IsNoDeeper (row ∷ m.version.rows) (not_deeper m.version.rows, pairs_of IsNoDeeper m.version.rows old.levels);
    laid = record {
      on_device = (on_device, old.laid.on_device);
      apart = all_pairs AreApart (map extent_of (row ∷ m.version.rows)) (free, pairs_of AreApart (map extent_of m.version.rows) old.laid.apart);
    };
  }

  pub next_is_version : IsVersion (next_manifest m row).version
  next_is_version = record {
    few_tables = omega (arith, few);
    some_epoch = is.some_epoch;
    epoch = is.epoch;
    some_pages = is.some_pages;
    few_pages = is.few_pages;
    hash_bits = is.hash_bits;
    real_bits = is.real_bits;
    ratio = is.ratio;
    log_page = other_area;
    rows = (fits, is.rows);
    settings = (range, is.settings);
    placed = rows_keep.unbroken (next_manifest m row).version rows_are;
  }
