-- What a flush makes of the state under a store, and why it makes nothing of it.
use Rattle.std.proofs.Common.{◌≡◌, ◌≢◌, ◌⊎◌, inl, inr, ◌∙◌, ◌<◌, ◌≤◌, ◌+◌, ℕ, true, false, List, [], ◌∷◌, length, refl, sym, ap, subst, arith}
use Rattle.std.specs.Prelude.{Option, Some, None, Result, Ok, Err, IsErrAnd, ◌==◌}
use Rattle.block_model.specs.Block.{IsTable}
use Rattle.block_model.specs.Places.{end_page}
use Rattle.byte_fields.specs.declared.parts.Row.{Row}
use Rattle.disk_trait.specs.Image.{Image}
use Rattle.disk_trait.specs.World.{Meanwhile, Now, World}
use Rattle.disk_trait.specs.declared.fault.DiskFault.{DiskFault}
use Rattle.disk_trait.proofs.Moments.{meanwhile_weaker, started}
use Rattle.entry_model.specs.Entries.{Entry}
use Rattle.extent_model.proofs.Rooms.{gap_small}
use Rattle.extent_model.specs.Extents.{AreLaid, Extent}
use Rattle.extent_model.specs.Gaps.{first_gap, largest_gap}
use Rattle.filter_api.specs.Spellings.{Spelling}
use Rattle.filter_api.specs.declared.settings.Settings.{Settings}
use Rattle.filter_model.specs.Leaves.{Leaf}
use Rattle.image_model.specs.Stands.{StandsForMap, settings_of}
use Rattle.key_base.specs.Limits.{last_epoch}
use Rattle.line_model.specs.Replies.{Reply, ManyTables, LastEpoch, Full}
use Rattle.log_model.proofs.Logs.{none_filled}
use Rattle.manifest.specs.Manifest.{Manifest}
use Rattle.manifest.specs.declared.fault.ManifestFault.{ManifestFault}
use Rattle.manifest.specs.declared.fault.ManifestFault.TheVariants as fault
use Rattle.manifest_model.specs.Laws.{IsVersion}
use Rattle.manifest_model.specs.Version.{Version}
use Rattle.map_model.specs.SortedMap.{Map}
use Rattle.mem_table.specs.Table.{MemoryTable, source_in}
use Rattle.state_model.proofs.MostTables.{over_tables}
use Rattle.state_model.proofs.Kept.{flushed_keeps}
use Rattle.state_model.specs.Changes.{flushed}
use Rattle.state_model.specs.State.{State}
use Rattle.state_model.specs.Taken.{taken}
use Rattle.state_model.specs.View.{state_map}
use Rattle.table_file.specs.Building.{Built}
use Rattle.table_file.specs.Building as building
use Rattle.table_file.specs.Opened.{Opened}
use Rattle.table_file.specs.Writing.{made_filter, made_row}
use Rattle.table_model.specs.Tables.{FilterBytes, filter_bytes_of, source_pages, table_of, table_pages}
use Rattle.store_core.specs.Answers.{WroteEntry, refused, stops, turns}
use Rattle.store_core.specs.Faults.{of_manifest_fault}
use Rattle.store_core.specs.Flushing.{FlushedTo, IsFlushFault, IsPlan, IsPlanRefusal, flushed_at, installed_manifest, need_under, opened_of, state_with}
use Rattle.level_merge.specs.JobValue.{JobValue}
use Rattle.store_search.specs.Caching.{CacheAgrees, Cached}
use Rattle.store_core.specs.StoreValue.{IsConsistent, StoreValue}
use Rattle.store_core.specs.Running.{extents_with, outputs_in}
use Rattle.store_core.specs.Represents.{Represents, RepresentsOn}
use Rattle.store_core.specs.declared.error.Limit.TheVariants as limit
use Rattle.store_core.specs.declared.error.StoreError.{StoreError}
use Rattle.store_core.specs.declared.error.StoreError.TheVariants as error
use Rattle.store_core.proofs.Agreed.{Agree, tied_agree}
use Rattle.store_search.proofs.Caches.{true_in_front}
use Rattle.store_core.proofs.Flushed.{flushed_done, flushed_full, flushed_last, flushed_none, last_is}
use Rattle.store_core.proofs.Frames.{under_stands}
use Rattle.store_core.proofs.Overs.{placed_sound}
use Rattle.store_core.proofs.Plans.{pages_are, row_level}
use Rattle.store_core.proofs.Writing.{never, tied_with}
use Rattle.range_model.specs.Sources.{Change, Source, alone, empty_source, source_of}

eq_true : (m n : ℕ) → m ≡ n → (m == n) ≡ true
eq_true m n e = grind arith

below : (m n : ℕ) → m < n → (m == n) ≡ false
below m n l = grind arith

-- a fault of the device is no lack of memory
no_memory : (cause : DiskFault) → error.Device cause ≡ error.Memory → ⊥
no_memory cause is = cc

-- a refusal that a `?` passes on
pub passed_on : {T : Type 0} (r : Result T StoreError) (x : StoreError) → IsErrAnd r (λ (e : StoreError). e ≡ x) → Err x ≡ r
passed_on (Ok y) x is = absurd is
passed_on (Err e) x is = ap Err (sym is)

module _ (spelling : Spelling) (bytes : FilterBytes) (store : StoreValue) (s : State) where
  abbrev Own : Image → Type 0
  Own = StandsForMap spelling (state_map s)

  -- before anything is written
  pub stands_now : IsConsistent store → (w : World) → Represents spelling bytes store s w → Meanwhile Own w w
  stands_now whole w tied = started Own w (λ image left. under_stands spelling store.manifest store.tables store.job whole.slot whole.rows s image (tied.images image left))

  -- memory was wanted, whatever the change
  wanted_in : {T : Type 0} (after : StoreValue) (change : Result State Reply) (a b : World) → Represents spelling bytes after s b → Meanwhile Own a b → WroteEntry {T = T} spelling bytes s change (Err error.Memory) after a b
  wanted_in {T = T} after change a b tied meanwhile = elim change as (λ r. change ≡ r → WroteEntry {T = T} spelling bytes s change (Err error.Memory) after a b) [
    | Ok to ↦ λ is. turns to is tt (record { meanwhile = meanwhile_weaker Own _ a b meanwhile (λ image map. inl map); wanted = λ _. meanwhile; done = tt; refused = λ _. tied })
    | Err why ↦ λ is. refused why is refl (inr refl) tied meanwhile
  ] refl

  pub wanted : {T : Type 0} (change : Result State Reply) (a b : World) → Represents spelling bytes store s b → Meanwhile Own a b → WroteEntry {T = T} spelling bytes s change (Err error.Memory) store a b
  wanted change a b tied meanwhile = wanted_in store change a b tied meanwhile

  -- with room for more tables
  pub wanted_with : {T : Type 0} (change : Result State Reply) (r : Result T StoreError) (ts : List Opened) (w : World) → IsErrAnd r (λ (e : StoreError). e ≡ error.Memory) → ts ≡ store.tables
      → IsConsistent store → Represents spelling bytes store s w → WroteEntry spelling bytes s change r (record store { tables = ts }) w w
  wanted_with {T = T} change r ts w is same whole tied =
      subst (λ (l : List Opened). WroteEntry spelling bytes s change r (record store { tables = l }) w w) (sym same)
      (subst (λ (x : Result T StoreError). WroteEntry spelling bytes s change x store w w) (passed_on r error.Memory is) (wanted change w w tied (stands_now whole w tied)))

  -- with another room for entries
  pub wanted_room : {T : Type 0} (change : Result State Reply) (r : Result T StoreError) (m : MemoryTable) (w : World) → IsErrAnd r (λ (e : StoreError). e ≡ error.Memory) → m ≡ record store.memory { spare = m.spare }
      → IsConsistent store → Represents spelling bytes store s w → WroteEntry spelling bytes s change r (record store { memory = m }) w w
  wanted_room {T = T} change r m w is kept whole tied =
      subst (λ (x : Result T StoreError). WroteEntry spelling bytes s change x (record store { memory = m }) w w) (passed_on r error.Memory is)
      (wanted_in (record store { memory = m }) change w w (tied_with spelling bytes store s w m kept tied) (stands_now whole w tied))

  -- nothing is in memory
  pub nothing_to_flush : {T : Type 0} (x : T) (w : World) → IsConsistent store → Represents spelling bytes store s w → store.memory.entries ≡ [] → WroteEntry spelling bytes s (flushed bytes s) (Ok x) store w w
  nothing_to_flush x w whole tied none =
      turns s (flushed_none bytes s (sym tied.memory ∙ none)) tt
      (record { meanwhile = meanwhile_weaker Own _ w w (stands_now whole w tied) (λ image map. inl map); wanted = tt; done = tied; refused = tt })

  -- what is flushed are the memory entries of the state with another log
  module _ (a : World) (current : a.leaves a.moment a.seen.held) (tied : Represents spelling bytes store s a) (records : List Change) (entries : List Entry) (are : entries ≡ (source_of records).entries) (no_range : source_of records ≡ alone (source_of records).entries) (some : entries ≢ []) where
    abbrev over : State
    over = record s { log = records }

    abbrev v : Version
    v = store.manifest.version

    agrees : Agree v (outputs_in store.job) s
    agrees = tied_agree spelling bytes store s a current tied

    some_memory : (source_of records).entries ≢ []
    some_memory none = some (are ∙ none)

    need_is : table_pages bytes s.settings (source_of records).entries ≡ need_under bytes v entries
    need_is = ap (λ (st : Settings). table_pages bytes st (source_of records).entries) agrees.settings ∙ ap (table_pages bytes (settings_of v)) (sym are)

    largest_is : largest_gap s.pages (taken s) ≡ largest_gap v.pages (extents_with v (outputs_in store.job))
    largest_is = ap (λ (n : ℕ). largest_gap n (taken s)) agrees.pages ∙ ap (largest_gap v.pages) agrees.taken_is

    first_is : (need : ℕ) → first_gap s.pages (taken s) need ≡ first_gap v.pages (extents_with v (outputs_in store.job)) need
    first_is need = ap (λ (n : ℕ). first_gap n (taken s) need) agrees.pages ∙ ap (λ (es : List Extent). first_gap v.pages es need) agrees.taken_is

    few : length v.rows < 1024 → length s.tables < 1024
    few less = omega (arith, less, agrees.many)

    -- ---- nothing is planned

    many_refuse : 1024 ≤ length v.rows → flushed bytes over ≡ Err ManyTables
    many_refuse many = over_tables bytes over (omega (arith, many, agrees.many)) some_memory

    full_refuses : (need gap : ℕ) → length v.rows < 1024 → need ≡ need_under bytes v entries → gap ≡ largest_gap v.pages (extents_with v (outputs_in store.job))
        → largest_gap v.pages (extents_with v (outputs_in store.job)) < need_under bytes v entries → flushed bytes over ≡ Err (Full need gap)
    full_refuses need gap less need_so gap_so wide =
        let none = gap_small s.pages (taken s) (table_pages bytes s.settings (source_of records).entries) (omega (arith, wide, need_is, largest_is)) in
        flushed_full bytes over some_memory (few less) no_range none
        ∙ ap (λ (n : ℕ). Err (Full n (largest_gap s.pages (taken s)))) (need_is ∙ sym need_so)
        ∙ ap (λ (g : ℕ). Err (Full need g)) (largest_is ∙ sym gap_so)

    last_refuses : length v.rows < 1024 → need_under bytes v entries ≤ largest_gap v.pages (extents_with v (outputs_in store.job)) → v.epoch ≡ last_epoch → flushed bytes over ≡ Err LastEpoch
    last_refuses less room last =
        flushed_last bytes over some_memory (few less) no_range (omega (arith, room, need_is, largest_is)) (eq_true s.epoch last_epoch (omega (arith, agrees.epoch, last, last_is)))

    pub plan_refused : {T : Type 0} (whole : IsConsistent store) (x : StoreError) → IsPlanRefusal bytes v (outputs_in store.job) entries x → WroteEntry {T = T} spelling bytes s (flushed bytes over) (Err x) store a a
    plan_refused whole error.Memory why = wanted (flushed bytes over) a a tied (stands_now whole a tied)
    plan_refused whole (error.Limit limit.Tables) why = refused ManyTables (many_refuse why) refl (inl refl) tied (stands_now whole a tied)
    plan_refused whole (error.Limit limit.Epoch) why = refused LastEpoch (last_refuses why.0 why.1 why.2) refl (inl refl) tied (stands_now whole a tied)
    plan_refused whole (error.Full need gap) why =
        refused (Full need gap) (full_refuses need gap why.0 why.1.0 why.1.1 why.1.2) refl (inl refl) tied (stands_now whole a tied)
    plan_refused whole (error.Limit (limit.Key size)) why = absurd why
    plan_refused whole (error.Limit (limit.Value size)) why = absurd why
    plan_refused whole (error.Device cause) why = absurd why
    plan_refused whole error.Stopped why = absurd why
    plan_refused whole (error.Damaged damage) why = absurd why
    plan_refused whole error.NotAStore why = absurd why
    plan_refused whole error.AlreadyAStore why = absurd why
    plan_refused whole (error.BadSettings field) why = absurd why

-- what is made of the state that differs in its log is made of that with what is flushed
pub wrote_over : {T : Type 0} (spelling : Spelling) (bytes : FilterBytes) (s : State) (over : Option Entry) (r : Result T StoreError) (after : StoreValue) (a b : World)
    → WroteEntry spelling bytes s (flushed bytes (record s { log = (state_with s over).log })) r after a b → WroteEntry spelling bytes s (flushed bytes (state_with s over)) r after a b
wrote_over spelling bytes s None r after a b wrote = wrote
wrote_over spelling bytes s (Some e) r after a b wrote = wrote

-- ---- what is planned

-- the row of a plan is that of its own level, and ends on the largest device
module _ (spelling : Spelling) (built_cutoff : ℕ → List Leaf → ℕ) (m : Manifest) (outputs : List Row) (entries : List Entry) (parts : Built) (row : Row) (next : Manifest)
    (plan : IsPlan spelling built_cutoff m outputs entries parts row next) where
  pub row_again : row ≡ made_row spelling built_cutoff parts row.level row.first_page
  row_again =
      let level_is : row.level ≡ 0 = ap (λ (r : Row). r.level) plan.row_is ∙ row_level row.first_page parts.settings (building.source_in parts) (made_filter spelling built_cutoff parts) in
      plan.row_is ∙ ap (λ (n : ℕ). made_row spelling built_cutoff parts n row.first_page) (sym level_is)

  pub row_within : IsVersion m.version → AreLaid m.version.pages (extents_with m.version outputs) → IsVersion next.version → row.first_page + source_pages (filter_bytes_of spelling built_cutoff) parts.settings (building.source_in parts) ≤ next.version.pages
      → end_page row ≤ 16777216
  row_within is laid next_is fits = omega (arith, fits, next_is.few_pages, pages_are spelling built_cutoff m outputs entries parts row next is laid plan)

module _ (spelling : Spelling) (built_cutoff : ℕ → List Leaf → ℕ) (store : StoreValue) (s : State) (a b : World) (current : a.leaves a.moment a.seen.held)
    (tied : Represents spelling (filter_bytes_of spelling built_cutoff) store s a) (records : List Change) (entries : List Entry) (are : entries ≡ (source_of records).entries) (no_range : source_of records ≡ alone (source_of records).entries) (some : entries ≢ []) (parts : Built) (row : Row) (next : Manifest)
    (plan : IsPlan spelling built_cutoff store.manifest (outputs_in store.job) entries parts row next) where
  abbrev behind : State
  behind = record s { log = records }

  abbrev bytes : FilterBytes
  bytes = filter_bytes_of spelling built_cutoff

  abbrev Before : Image → Type 0
  Before = StandsForMap spelling (state_map s)

  pub plan_of_records : IsPlan spelling built_cutoff store.manifest (outputs_in store.job) (source_of records).entries parts row next
  plan_of_records = subst (λ (es : List Entry). IsPlan spelling built_cutoff store.manifest (outputs_in store.job) es parts row next) are plan

  abbrev to : State
  to = flushed_at bytes row.first_page (record s { log = records })

  -- the first gap is that of the state, too
  placed_there : first_gap s.pages (taken s) (table_pages bytes s.settings (source_of records).entries) ≡ Some row.first_page
  placed_there =
      let need_so = need_is spelling bytes store s a current tied records entries are no_range some in
      first_is spelling bytes store s a current tied records entries are no_range some (table_pages bytes s.settings (source_of records).entries)
      ∙ ap (first_gap store.manifest.version.pages (extents_with store.manifest.version (outputs_in store.job))) need_so ∙ plan.place

  less : length s.tables < 1024
  less = few spelling bytes store s a current tied records entries are no_range some plan.few

  left : s.epoch < last_epoch
  left =
      let epoch_is = (agrees spelling bytes store s a current tied records entries are no_range some).epoch in
      omega (arith, epoch_is, plan.epoch, last_is)

  planned : flushed bytes behind ≡ Ok to
  planned = flushed_done bytes behind (some_memory spelling bytes store s a current tied records entries are no_range some) less no_range row.first_page placed_there (below s.epoch last_epoch left)

  -- the map after the flush is that with what was flushed
  same_map : (image : Image) → Before image ⊎ StandsForMap spelling (state_map behind) image → Before image ⊎ StandsForMap spelling (state_map to) image
  same_map image (inl map) = inl map
  same_map image (inr map) = inr (subst (λ (m : Map). StandsForMap spelling m image) (sym (flushed_keeps bytes behind to planned)) map)

  pub flush_done : {T U : Type 0} (x : T) (y : U) (after : StoreValue) → IsTable (source_of records).entries → FlushedTo spelling built_cutoff store s behind parts row next (Ok x) a b → after.manifest ≡ installed_manifest next
      → after.tables ≡ opened_of built_cutoff parts row ∷ store.tables → after.job ≡ store.job → after.blocks ≡ store.blocks → IsConsistent store → after.log.filled ≡ 0 → source_in after.memory ≡ empty_source → WroteEntry spelling bytes s (flushed bytes behind) (Ok y) after a b
  flush_done x y after table replaces manifest_is tables_are same_job blocks_are whole begun cleared = turns to planned tt (record {
    meanwhile = meanwhile_weaker _ _ a b replaces.meanwhile same_map;
    wanted = tt;
    done = record {
      sound = placed_sound bytes s (source_of records).entries row.first_page tied.sound table less left placed_there;
      none_kept = tied.none_kept;
      images = λ image left.
          subst (λ (ts : List Opened). RepresentsOn spelling after.manifest ts after.job to image) (sym tables_are)
          (subst (λ (m : Manifest). RepresentsOn spelling m (opened_of built_cutoff parts row ∷ store.tables) after.job to image) (sym manifest_is)
          (subst (λ (running : Option JobValue). RepresentsOn spelling (installed_manifest next) (opened_of built_cutoff parts row ∷ store.tables) running to image) (sym same_job) (replaces.done image left)));
      log = begun ∙ sym none_filled;
      memory = ap (λ (source : Source). source.entries) cleared;
      ranges = ap (λ (source : Source). source.ranges) cleared;
      blocks = subst (λ (b : Cached). CacheAgrees b after.tables to.tables) (sym blocks_are)
          (subst (λ (ts : List Opened). CacheAgrees store.blocks ts to.tables) (sym tables_are)
          (true_in_front store.blocks (opened_of built_cutoff parts row) store.tables (table_of bytes s.settings 0 row.first_page (source_of records).entries) s.tables whole.numbered tied.blocks));
    };
    refused = tt;
  })

  -- the store with other fields the same
  tied_at : (after : StoreValue) → after.manifest ≡ store.manifest → after.tables ≡ store.tables → after.job ≡ store.job → after.log ≡ store.log → after.memory ≡ store.memory → after.blocks ≡ store.blocks
      → Now (RepresentsOn spelling store.manifest store.tables store.job s) b → Represents spelling bytes after s b
  tied_at after same_manifest same_tables same_job same_log same_memory same_blocks images = record {
    sound = tied.sound;
    none_kept = tied.none_kept;
    images = λ image left.
        subst (λ (ts : List Opened). RepresentsOn spelling after.manifest ts after.job s image) (sym same_tables)
        (subst (λ (m : Manifest). RepresentsOn spelling m store.tables after.job s image) (sym same_manifest)
        (subst (λ (running : Option JobValue). RepresentsOn spelling store.manifest store.tables running s image) (sym same_job) (images image left)));
    log = ap (λ (p : _). p.filled) same_log ∙ tied.log;
    memory = ap (λ (m : _). m.entries) same_memory ∙ tied.memory;
    ranges = ap (λ (m : _). m.ranges) same_memory ∙ tied.ranges;
    blocks = subst (λ (b : Cached). CacheAgrees b after.tables s.tables) (sym same_blocks) (subst (λ (ts : List Opened). CacheAgrees store.blocks ts s.tables) (sym same_tables) tied.blocks);
  }

  flush_stops : {T U : Type 0} (f : ManifestFault) (cause : DiskFault) (after : StoreValue) → FlushedTo {T = T} spelling built_cutoff store s behind parts row next (Err f) a b → after.stopped ≡ true
      → WroteEntry {T = U} spelling bytes s (flushed bytes behind) (Err (error.Device cause)) after a b
  flush_stops f cause after replaces stopped = turns to planned tt (record {
    meanwhile = meanwhile_weaker _ _ a b replaces.meanwhile same_map;
    wanted = λ is. absurd (no_memory cause is);
    done = tt;
    refused = λ runs. absurd (never after.stopped stopped runs);
  })

  module _ (after : StoreValue) (same_manifest : after.manifest ≡ store.manifest) (same_tables : after.tables ≡ store.tables) (same_job : after.job ≡ store.job) (same_log : after.log ≡ store.log) (same_memory : after.memory ≡ store.memory)
      (same_blocks : after.blocks ≡ store.blocks) where
    -- nothing was written
    by_memory : {T U : Type 0} → FlushedTo {T = T} spelling built_cutoff store s behind parts row next (Err fault.Memory) a b → WroteEntry {T = U} spelling bytes s (flushed bytes behind) (Err error.Memory) after a b
    by_memory replaces =
        wanted spelling bytes after s (flushed bytes behind) a b (tied_at after same_manifest same_tables same_job same_log same_memory same_blocks (replaces.wanted refl)) (replaces.unmoved refl)

    told_as : {T U : Type 0} (f : ManifestFault) → FlushedTo {T = T} spelling built_cutoff store s behind parts row next (Err f) a b → IsFlushFault a b f
        → after.stopped ≡ stops (of_manifest_fault f) → WroteEntry {T = U} spelling bytes s (flushed bytes behind) (Err (of_manifest_fault f)) after a b
    told_as fault.Memory replaces why stopped = by_memory replaces
    told_as (fault.Device cause) replaces why stopped = flush_stops (fault.Device cause) cause after replaces (stopped ∙ why.0)
    told_as fault.NotAStore replaces why stopped = absurd why
    told_as fault.AlreadyAStore replaces why stopped = absurd why
    told_as fault.Epoch replaces why stopped = absurd why
    told_as (fault.Damaged damage) replaces why stopped = absurd why

    pub flush_failed : {T U : Type 0} (f : ManifestFault) (x : StoreError) → x ≡ of_manifest_fault f → FlushedTo {T = T} spelling built_cutoff store s behind parts row next (Err f) a b
        → IsFlushFault a b f → after.stopped ≡ stops x → WroteEntry {T = U} spelling bytes s (flushed bytes behind) (Err x) after a b
    flush_failed {U = U} f x is replaces why stopped =
        subst (λ (e : StoreError). WroteEntry {T = U} spelling bytes s (flushed bytes behind) (Err e) after a b) (sym is) (told_as f replaces why (stopped ∙ ap stops is))
