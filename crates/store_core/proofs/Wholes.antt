-- What is so of a store after a flush, whatever its device holds.
use Rattle.std.proofs.Common.{◌≡◌, ◌≢◌, ◌∙◌, ◌<◌, ◌≤◌, ℕ, Bool, List, [], ◌∷◌, length, map, refl, sym, ap, subst, arith}
use Rattle.std.specs.Prelude.{Option, Some, None}
use Rattle.std.specs.List.{AllByRecursion}
use Rattle.std.proofs.lemmas.List.{append-nil}
use Rattle.block_model.specs.Block.{IsTable}
use Rattle.byte_fields.specs.declared.parts.Row.{Row}
use Rattle.entry_model.specs.Entries.{Entry}
use Rattle.extent_model.proofs.Lists.{all_pairs, pairs_of}
use Rattle.extent_model.specs.Extents.{AreApart, AreLaid, IsOnDevice}
use Rattle.key_base.specs.Limits.{last_epoch}
use Rattle.level_merge.specs.JobValue.{JobValue}
use Rattle.log_model.proofs.Logs.{none_filled}
use Rattle.log_model.specs.Changes.{filled_by}
use Rattle.manifest.proofs.Steps.{raised_is}
use Rattle.manifest.specs.Manifest.{Manifest}
use Rattle.manifest_model.proofs.Rows.{rows_keep}
use Rattle.manifest_model.specs.Laws.{IsVersion}
use Rattle.manifest_model.specs.Rows.{extent_of}
use Rattle.manifest_model.specs.Version.{Version, log_page_of}
use Rattle.mem_table.specs.Table.{source_in}
use Rattle.merge_rows.proofs.Begins.{walks_then}
use Rattle.state_model.proofs.SoundLogs.{memory_is_table, source_none}
use Rattle.range_model.specs.Sources.{Source, empty_source}
use Rattle.table_file.specs.Opened.{Opened}
use Rattle.store_search.specs.Caching.{AreNumbered, Cached}
use Rattle.store_core.specs.Flushing.{installed_manifest, next_manifest}
use Rattle.store_core.specs.StoreValue.{IsConsistent, IsOfChanges, StoreValue, rows_of}
use Rattle.store_core.specs.Running.{MayRunIn, extents_with, outputs_in}
use Rattle.store_search.proofs.Caches.{numbered_more}

-- a log with no record, and no entry
none_of : (store : StoreValue) → store.log.filled ≡ 0 → source_in store.memory ≡ empty_source → IsOfChanges store.log (source_in store.memory)
none_of store begun cleared = record {
  changes = [];
  sound = tt;
  fits = omega (arith, none_filled);
  filled_is = begun ∙ sym none_filled;
  memory_is = cleared;
}

-- a merge runs on where a row comes before all others, the pages of which were free
runs_with : (row : Row) (opened : Opened) (m : Manifest) (tables : List Opened) (running : Option JobValue)
    → IsOnDevice m.version.pages (extent_of row) × AllByRecursion (AreApart (extent_of row)) (extents_with m.version (outputs_in running)) → MayRunIn m.version tables running
    → MayRunIn (installed_manifest (next_manifest m row)).version (opened ∷ tables) running
runs_with row opened m tables None free may = tt
runs_with row opened m tables (Some run) free may = (
  record {
    apart = may.0.apart;
    numbers = walks_then opened tables run.merge.walks may.0.numbers;
    written = may.0.written;
    rows = may.0.rows;
    laid = record {
      on_device = (free.0, may.0.laid.on_device);
      apart = all_pairs AreApart (extent_of row ∷ extents_with m.version run.outputs) (free.1, pairs_of AreApart (extents_with m.version run.outputs) may.0.laid.apart);
    };
    few = may.0.few;
  },
  may.1,
)

-- the extents of a store's version are laid apart with the outputs of its merge
pub laid_with : (store : StoreValue) → IsConsistent store → AreLaid store.manifest.version.pages (extents_with store.manifest.version (outputs_in store.job))
laid_with store whole = by_job store.manifest.version store.tables store.job whole.version whole.job
  where
    by_job : (v : Version) (tables : List Opened) (running : Option JobValue) → IsVersion v → MayRunIn v tables running → AreLaid v.pages (extents_with v (outputs_in running))
    by_job v tables None is may = subst (λ (rs : List Row). AreLaid v.pages (map extent_of rs)) (sym (append-nil v.rows)) (rows_keep.kept v is.placed).laid
    by_job v tables (Some run) is may = may.0.laid

module _ (store after : StoreValue) (opened : Opened) (row : Row) (next : Manifest) (whole : IsConsistent store) (is : IsVersion next.version) (epoch : next.version.epoch < last_epoch)
    (next_is : next ≡ next_manifest store.manifest row) (manifest_is : after.manifest ≡ installed_manifest next) (tables_are : after.tables ≡ opened ∷ store.tables) (row_is : opened.row ≡ row)
    (blocks_are : after.blocks ≡ store.blocks) (same_job : after.job ≡ store.job) (free : IsOnDevice store.manifest.version.pages (extent_of row) × AllByRecursion (AreApart (extent_of row)) (extents_with store.manifest.version (outputs_in store.job))) where
  rows_behind : rows_of after.tables ≡ (installed_manifest next).version.rows
  rows_behind =
      ap rows_of tables_are ∙ ap (λ (r : Row). r ∷ rows_of store.tables) row_is ∙ ap (λ (rs : List Row). row ∷ rs) whole.rows
      ∙ ap (λ (m : Manifest). m.version.rows) (sym next_is)

  job_behind : MayRunIn after.manifest.version after.tables after.job
  job_behind =
      subst (λ (m : Manifest). MayRunIn m.version after.tables after.job) (ap installed_manifest (sym next_is) ∙ sym manifest_is)
      (subst (λ (ts : List Opened). MayRunIn ((installed_manifest (next_manifest store.manifest row)).version) ts after.job) (sym tables_are)
      (subst (MayRunIn ((installed_manifest (next_manifest store.manifest row)).version) (opened ∷ store.tables)) (sym same_job) (runs_with row opened store.manifest store.tables store.job free whole.job)))

  pub flushed_whole : next.version.log_page ≡ log_page_of after.log.area → after.log.filled ≡ 0 → source_in after.memory ≡ empty_source → IsConsistent after
  flushed_whole area begun cleared = record {
    version = subst (λ (m : Manifest). IsVersion m.version) (sym manifest_is) (raised_is next.version is (λ last. absurd (omega (arith, last, epoch))));
    slot = subst (λ (m : Manifest). m.slot ≤ 1) (sym manifest_is) (omega arith);
    rows = rows_behind ∙ ap (λ (m : Manifest). m.version.rows) (sym manifest_is);
    area = ap (λ (m : Manifest). m.version.log_page) manifest_is ∙ area;
    changes = none_of after begun cleared;
    job = job_behind;
    numbered = subst (λ (b : Cached). AreNumbered b (length after.tables)) (sym blocks_are)
        (subst (λ (ts : List Opened). AreNumbered store.blocks (length ts)) (sym tables_are) (numbered_more store.blocks (length store.tables) whole.numbered));
  }

-- with nothing in memory the log has no record
pub begun_where_none : (store : StoreValue) → IsConsistent store → store.memory.entries ≡ [] → store.log.filled ≡ 0
begun_where_none store whole none =
    let of = whole.changes in
    let no_change = source_none of.changes of.sound (sym (ap (λ (source : Source). source.entries) of.memory_is) ∙ none) in
    omega (arith, of.filled_is, ap filled_by no_change, none_filled)

some_of : (entries : List Entry) → entries ≢ [] → 1 ≤ length entries
some_of [] some = absurd (some refl)
some_of (e ∷ more) some = omega arith

-- with something in memory that is a table
pub memory_table : (store : StoreValue) → IsConsistent store → store.memory.entries ≢ [] → IsTable store.memory.entries
memory_table store whole some =
    let of = whole.changes in
    subst (λ (source : Source). IsTable source.entries) (sym of.memory_is)
    (memory_is_table of.changes of.sound of.fits (subst (λ (source : Source). 1 ≤ length source.entries) of.memory_is (some_of store.memory.entries some))).entries

-- whether it is stopped is no part of it
pub whole_stopped : (store : StoreValue) (stopped : Bool) (tables : List Opened) → tables ≡ store.tables → IsConsistent store → IsConsistent (record store { stopped = stopped; tables = tables })
whole_stopped store stopped tables same whole = record {
  version = whole.version;
  slot = whole.slot;
  rows = ap rows_of same ∙ whole.rows;
  area = whole.area;
  changes = whole.changes;
  job = subst (λ (ts : List Opened). MayRunIn store.manifest.version ts store.job) (sym same) whole.job;
  numbered = subst (λ (ts : List Opened). AreNumbered store.blocks (length ts)) (sym same) whole.numbered;
}
