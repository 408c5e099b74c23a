-- The version in which the tables of a merge take the place of those that it read keeps the rules.
use Rattle.std.proofs.Common.{◌≡◌, inl, inr, ◌∙◌, ◌+◌, ◌≤◌, ◌++◌, ℕ, List, [], ◌∷◌, length, map, refl, sym, ap, subst, arith}
use Rattle.std.specs.List.{AllByRecursion}
use Rattle.std.proofs.lemmas.List.{length-map}
use Rattle.byte_fields.specs.declared.parts.Row.{Row}
use Rattle.extent_model.proofs.Lists.{Mutual, Pairs, all_pairs, pairs_of}
use Rattle.extent_model.specs.Extents.{AreApart, AreLaid, Extent, IsOnDevice}
use Rattle.filter_api.specs.Ranges.{IsRowInRange}
use Rattle.level_merge.specs.JobValue.{JobValue}
use Rattle.manifest.specs.Manifest.{Manifest}
use Rattle.manifest_model.proofs.Rows.{rows_keep}
use Rattle.manifest_model.specs.Laws.{IsVersion, RowFits}
use Rattle.manifest_model.specs.Rows.{AreTableRows, IsNoDeeper, IsTableRow, extent_of}
use Rattle.merge_rows.proofs.Begins.{numbers_known}
use Rattle.merge_rows.specs.Steps.{numbers}
use Rattle.table_file.specs.Opened.{Opened}
use Rattle.store_core.specs.StoreValue.{rows_of}
use Rattle.store_core.specs.Install.{merged_manifest, others_in, tables_behind}
use Rattle.store_core.specs.Running.{IsRun, extents_with}
use Rattle.store_core.proofs.InstallLists.{IsUpTo, all_first, all_of_seen, all_second, all_seen, fold_all, fold_length, fold_levels, fold_pairs, others_all, others_few, others_pairs, pairs_between, pairs_first, pairs_of_seen, pairs_second, pairs_seen}

abbrev row_of : Opened → Row
row_of t = t.row

abbrev pub extent_in : Opened → Extent
extent_in t = extent_of t.row

abbrev IsBeside : Opened → Opened → Type 0
IsBeside t u = AreApart (extent_of t.row) (extent_of u.row)

beside_flip : Mutual IsBeside
beside_flip t u (inl before) = inr before
beside_flip t u (inr behind) = inl behind

-- the rows of tables and their extents
rows_joined : (tables made : List Opened) → map extent_of (rows_of tables ++ rows_of made) ≡ map extent_in (tables ++ made)
rows_joined [] [] = refl
rows_joined [] (t ∷ made) = ap (λ (es : List Extent). extent_of t.row ∷ es) (rows_joined [] made)
rows_joined (t ∷ tables) made = ap (λ (es : List Extent). extent_of t.row ∷ es) (rows_joined tables made)

extents_seen : (tables : List Opened) → map extent_of (rows_of tables) ≡ map extent_in tables
extents_seen [] = refl
extents_seen (t ∷ tables) = ap (λ (es : List Extent). extent_of t.row ∷ es) (extents_seen tables)

module _ (m : Manifest) (tables : List Opened) (run : JobValue) (is : IsVersion m.version) (rows : rows_of tables ≡ m.version.rows) (runs : IsRun m.version tables run) where
  abbrev behind : List Opened
  behind = tables_behind tables run

  abbrev others : List Opened
  others = others_in (numbers run.merge.walks) tables

  old : AreTableRows m.version.pages (rows_of tables)
  old = subst (AreTableRows m.version.pages) (sym rows) (rows_keep.kept m.version is.placed)

  -- all extents, as those of open tables
  all_extents : extents_with m.version run.outputs ≡ map extent_in (tables ++ run.made)
  all_extents =
      ap (λ (rs : List Row). map extent_of (rs ++ run.outputs)) (sym rows) ∙ ap (λ (rs : List Row). map extent_of (rows_of tables ++ rs)) runs.written ∙ rows_joined tables run.made

  apart : Pairs IsBeside (tables ++ run.made)
  apart = pairs_of_seen AreApart extent_in (tables ++ run.made) (subst (Pairs AreApart) all_extents (pairs_of AreApart (extents_with m.version run.outputs) runs.laid.apart))

  on_device : AllByRecursion (λ (t : Opened). IsOnDevice m.version.pages (extent_of t.row)) (tables ++ run.made)
  on_device = all_of_seen (IsOnDevice m.version.pages) extent_in (tables ++ run.made) (subst (AllByRecursion (IsOnDevice m.version.pages)) all_extents runs.laid.on_device)

  abbrev OnDevice : Opened → Type 0
  OnDevice t = IsOnDevice m.version.pages (extent_of t.row)

  laid_behind : AreLaid m.version.pages (map extent_of (rows_of behind))
  laid_behind = subst (AreLaid m.version.pages) (sym (extents_seen behind)) (record {
    on_device = all_seen (IsOnDevice m.version.pages) extent_in behind
        (fold_all OnDevice run.made others (all_second OnDevice tables run.made on_device) (others_all OnDevice (numbers run.merge.walks) tables (all_first OnDevice tables run.made on_device)));
    apart = all_pairs AreApart (map extent_in behind) (pairs_seen AreApart extent_in behind
        (fold_pairs IsBeside beside_flip run.made others (pairs_second IsBeside tables run.made apart)
        (others_all (λ (t : Opened). AllByRecursion (λ (w : Opened). IsBeside w t) run.made) (numbers run.merge.walks) tables (pairs_between IsBeside beside_flip tables run.made apart))
        (others_pairs IsBeside (numbers run.merge.walks) tables (pairs_first IsBeside tables run.made apart))));
  })

  rows_behind : AreTableRows m.version.pages (rows_of behind)
  rows_behind = record {
    each = all_seen IsTableRow row_of behind
        (fold_all (λ (t : Opened). IsTableRow t.row) run.made others (all_of_seen IsTableRow row_of run.made (subst (AllByRecursion IsTableRow) runs.written runs.rows))
        (others_all (λ (t : Opened). IsTableRow t.row) (numbers run.merge.walks) tables (all_of_seen IsTableRow row_of tables old.each)));
    levels = all_pairs IsNoDeeper (rows_of behind) (pairs_seen IsNoDeeper row_of behind
        (fold_levels run.made others (others_pairs IsUpTo (numbers run.merge.walks) tables (pairs_of_seen IsNoDeeper row_of tables (pairs_of IsNoDeeper (rows_of tables) old.levels)))));
    laid = laid_behind;
  }

  pub made_few : length run.made + length (others_in (numbers run.merge.walks) tables) ≤ 1024
  made_few =
      let fewer = others_few (numbers run.merge.walks) tables (pairs_of (λ (a b : ℕ). Rattle.std.specs.Prelude.◌≢◌ a b) (numbers run.merge.walks) runs.apart) (numbers_known run.merge.walks tables runs.numbers) in
      let many = length-map run.merge.walks Rattle.merge_rows.specs.Steps.number_of_walk in
      let wrote : length run.outputs ≡ length run.made = ap (λ (rs : List Row). length rs) runs.written ∙ length-map run.made row_of in
      let all : length tables ≡ length m.version.rows = sym (length-map tables row_of) ∙ ap (λ (rs : List Row). length rs) rows in
      omega (arith, fewer, many, wrote, all, runs.few, is.few_tables)

  pub merged_is_version : AllByRecursion RowFits (rows_of behind) → AllByRecursion IsRowInRange (rows_of behind) → IsVersion (merged_manifest m (rows_of behind)).version
  merged_is_version fits range = record {
    few_tables = omega (arith, length-map behind row_of, fold_length run.made others, made_few);
    some_epoch = is.some_epoch;
    epoch = is.epoch;
    some_pages = is.some_pages;
    few_pages = is.few_pages;
    hash_bits = is.hash_bits;
    real_bits = is.real_bits;
    ratio = is.ratio;
    log_page = is.log_page;
    rows = fits;
    settings = range;
    placed = rows_keep.unbroken (merged_manifest m (rows_of behind)).version rows_behind;
  }
