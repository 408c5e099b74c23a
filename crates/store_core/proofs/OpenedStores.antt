-- What a store that was opened is, and what its opening answers.
use Rattle.std.proofs.Common.{◌≡◌, ℕ, false, List, [], length, refl, sym, ap, subst, ◌∙◌, arith}
use Rattle.std.specs.Prelude.{map, None, Result, Ok, Err, IfOk, IfErr, MatchResult}
use Rattle.std.specs.List.{AllByRecursion}
use Rattle.std.proofs.lemmas.List.{length-map}
use Rattle.byte_fields.specs.Faults.{Fault}
use Rattle.byte_fields.specs.declared.parts.Damage.{Damage}
use Rattle.byte_fields.specs.declared.parts.Row.{Row}
use Rattle.disk_trait.specs.Image.{Image}
use Rattle.disk_trait.specs.World.{IsDurable, ReadMoves, SyncMoves, World}
use Rattle.disk_trait.proofs.Calls.{reads_keep}
use Rattle.filter_api.specs.Spellings.{Spelling, SpellsOne}
use Rattle.gate_log.specs.Faults.{IsShapeIn}
use Rattle.gate_log.specs.declared.fault.LogFault.{LogFault}
use Rattle.gate_log.specs.declared.fault.LogFault.TheVariants as log
use Rattle.image_model.proofs.Opening.{no_store_has_no_state, state_has_none}
use Rattle.image_model.proofs.Sound.{state_sound}
use Rattle.image_model.specs.Opening.{IsOpened, OpensWith, at_a_table, at_the_log, at_the_ranges, at_the_slots, at_the_version, key_range_of}
use Rattle.image_model.specs.Stands.{IsNamedBy, IsStateOf, UnnamedStand, as_shown}
use Rattle.image_model.specs.Tables.{AreTablesOf}
use Rattle.log_model.proofs.Ends.{one_list}
use Rattle.log_model.specs.Area.{LogIs, Position, area_in}
use Rattle.log_model.specs.Changes.{filled_by}
use Rattle.manifest.proofs.Steps.{are_slots}
use Rattle.manifest.specs.Loading.{IsLoadAnswer, IsLoaded}
use Rattle.manifest.specs.Manifest.{Manifest, other_place, place_of}
use Rattle.manifest.specs.declared.fault.ManifestFault.{ManifestFault}
use Rattle.manifest.specs.declared.fault.ManifestFault.TheVariants as manifest
use Rattle.manifest_model.proofs.Versions.{in_use, one_version}
use Rattle.manifest_model.specs.Slots.{IsVersionOf}
use Rattle.manifest_model.specs.Tables.{ranges_fault}
use Rattle.manifest_model.specs.Version.{Version, log_page_of}
use Rattle.map_model.specs.SortedMap.{Bytes}
use Rattle.mem_table.specs.Table.{source_in}
use Rattle.state_model.specs.State.{State}
use Rattle.table_file.specs.Faults.{filter_fault_of}
use Rattle.table_file.specs.Opened.{Opened}
use Rattle.table_model.specs.Tables.{FilterBytes}
use Rattle.store_core.specs.Faults.{of_log_fault, of_manifest_fault}
use Rattle.store_core.specs.StoreValue.{StoreValue, rows_of}
use Rattle.store_core.specs.Answers.{IsFailure}
use Rattle.store_core.specs.Opening.{AreOpened, IsOpenAnswer, IsOpenRefusal, IsOpenedAs, IsRangesDamage, IsTablesAnswer, IsVersionOpened, opened_range}
use Rattle.store_core.specs.Represents.{ReadsAs, Represents, RepresentsOn}
use Rattle.store_search.specs.Caching.{CacheAgrees, Cached, none_cached}
use Rattle.store_core.specs.declared.error.StoreError.{StoreError}
use Rattle.store_core.specs.declared.error.StoreError.TheVariants as error
use Rattle.store_search.proofs.Caches.{none_true}
use Rattle.store_core.proofs.Causes.{refusal_behind}
use Rattle.store_core.proofs.OpeningTables.{all_opened, as_many, held_of, ranges_are}
use Rattle.store_core.proofs.Runs.{none_run}
use Rattle.range_model.specs.Sources.{Change, Source, source_of}
use Rattle.state_model.specs.View.{in_memory}

-- ---- what is answered of an image

module _ (spelling : Spelling) (first : Bytes → Fault) (image : Image) where
  pub load_answer : (fault : ManifestFault) → IsLoadAnswer image fault → IsOpenAnswer spelling first image (of_manifest_fault fault)
  load_answer manifest.Memory is = tt
  load_answer (manifest.Device cause) is = tt
  load_answer manifest.NotAStore is = is
  load_answer manifest.AlreadyAStore is = is
  load_answer manifest.Epoch is = is
  load_answer (manifest.Damaged d) is = at_the_slots is

  -- a version is loaded
  module _ (m : Manifest) (loaded : IsLoaded image m) where
    pub in_use_is : IsVersionOf m.version image
    in_use_is = in_use (place_of m.slot) (other_place m.slot) m.version image (are_slots m.slot loaded.slot) loaded.stands.current

    pub tables_answer : (why : StoreError) → IsTablesAnswer spelling first m.version.rows image why → IsOpenAnswer spelling first image why
    tables_answer error.Memory is = tt
    tables_answer (error.Device cause) is = tt
    tables_answer error.Stopped is = is
    tables_answer (error.Limit limit) is = is
    tables_answer (error.Full need gap) is = is
    tables_answer (error.Damaged d) is = at_the_version (place_of m.slot) (other_place m.slot) m.version (are_slots m.slot loaded.slot) loaded.stands.current (at_a_table d is)
    tables_answer error.NotAStore is = absurd is
    tables_answer error.AlreadyAStore is = is
    tables_answer (error.BadSettings field) is = is

    -- its tables are open
    module _ (ts : List Opened) (rows : rows_of ts ≡ m.version.rows) (opened : AreOpened spelling ts image) where
      all_of_rows : AllByRecursion (IsOpened spelling image) m.version.rows
      all_of_rows = subst (AllByRecursion (IsOpened spelling image)) rows (all_opened spelling image ts opened)

      ranges_of_rows : ranges_fault (map (key_range_of image) m.version.rows) ≡ ranges_fault (map opened_range ts)
      ranges_of_rows = ap (λ (rs : List Row). ranges_fault (map (key_range_of image) rs)) (sym rows) ∙ ap ranges_fault (ranges_are spelling image ts opened)

      pub order_answer : (d : Damage) → IsRangesDamage m.slot (ranges_fault (map opened_range ts)) d → IsOpenAnswer spelling first image (error.Damaged d)
      order_answer d is =
          subst (λ (x : Damage). IsOpenAnswer spelling first image (error.Damaged x)) (sym is.2)
          (at_the_version (place_of m.slot) (other_place m.slot) m.version (are_slots m.slot loaded.slot) loaded.stands.current
          (at_the_ranges is.0 all_of_rows (ranges_of_rows ∙ is.1)))

      -- their ranges have no fault
      module _ (none : ranges_fault (map opened_range ts) ≡ None) (area : ℕ) (area_is : m.version.log_page ≡ log_page_of area) where
        pub log_answer : (fault : LogFault) → IsShapeIn area image fault → IsOpenAnswer spelling first image (of_log_fault fault)
        log_answer log.Memory is = tt
        log_answer (log.Device cause) is = tt
        log_answer (log.Shape at rule) is =
            at_the_version (place_of m.slot) (other_place m.slot) m.version (are_slots m.slot loaded.slot) loaded.stands.current
            (at_the_log area at rule all_of_rows (ranges_of_rows ∙ none) area_is is)

        opens_with : (changes : List Change) → LogIs area changes image → OpensWith spelling m.version changes image
        opens_with changes spelled = record {
          version_is = in_use_is;
          tables = all_of_rows;
          ranges = ranges_of_rows ∙ none;
          area = area;
          area_is = area_is;
          log = spelled;
        }

        -- and its log is replayed: the store of all these
        pub opened_as : (store : StoreValue) (p : Position) (changes : List Change) → store ≡ record { stopped = false; manifest = m; tables = ts; job = None; log = p; memory = store.memory; buffer = store.buffer; blocks = none_cached }
            → LogIs area changes image → p.filled ≡ filled_by changes → source_in store.memory ≡ source_of changes → IsOpenedAs spelling image store
        opened_as store p changes same spelled filled_is memory_is =
            subst (IsOpenedAs spelling image) (sym same)
            (record { loaded = loaded; changes = changes; opens = opens_with changes spelled; rows = rows; tables = opened; job = refl; log = filled_is; memory = memory_is; none_kept = refl })

-- what is made of these parts: the store, or there is no memory
pub parts_answer : (spelling : Spelling) (first : Bytes → Fault) (image : Image) (m : Manifest) (ts : List Opened) (p : Position) (changes : List Change) (area : ℕ) (r : Result StoreValue StoreError)
    → IsVersionOpened spelling image m ts → m.version.log_page ≡ log_page_of area → LogIs area changes image → p.filled ≡ filled_by changes
    → IfOk r (λ store. store ≡ record { stopped = false; manifest = m; tables = ts; job = None; log = p; memory = store.memory; buffer = store.buffer; blocks = none_cached })
    → IfOk r (λ store. source_in store.memory ≡ source_of changes) → IfErr r (λ why. why ≡ error.Memory)
    → MatchResult r (IsOpenedAs spelling image) (IsOpenAnswer spelling first image)
parts_answer spelling first image m ts p changes area (Ok store) found area_is spelled filled_is same memory_is wanted =
    opened_as spelling first image m found.loaded ts found.rows found.tables found.ranges area area_is store p changes same spelled filled_is memory_is
parts_answer spelling first image m ts p changes area (Err why) found area_is spelled filled_is same memory_is wanted = subst (IsOpenAnswer spelling first image) (sym wanted) tt

-- ---- the same, of what is as it was

pub same_tables_answer : (spelling : Spelling) (first : Bytes → Fault) (rows more : List Row) (image was : Image) (why : StoreError) → rows ≡ more → was ≡ image
    → IsTablesAnswer spelling first more was why → IsTablesAnswer spelling first rows image why
same_tables_answer spelling first rows more image was why same_rows held is =
    subst (λ (rs : List Row). IsTablesAnswer spelling first rs image why) (sym same_rows) (subst (λ (f : Image). IsTablesAnswer spelling first more f why) held is)

pub same_ranges : (slot other : ℕ) (ts us : List Opened) (d : Damage) → slot ≡ other → us ≡ ts → IsRangesDamage other (ranges_fault (map opened_range us)) d → IsRangesDamage slot (ranges_fault (map opened_range ts)) d
same_ranges slot other ts us d same_slot same is =
    subst (λ (n : ℕ). IsRangesDamage n (ranges_fault (map opened_range ts)) d) (sym same_slot) (subst (λ (xs : List Opened). IsRangesDamage other (ranges_fault (map opened_range xs)) d) same is)

pub as_few : (ts : List Opened) (rows : List Row) → rows_of ts ≡ rows → length ts ≡ length rows
as_few ts rows same = sym (length-map ts _) ∙ ap length same

-- ---- of an image that stands for a state

module _ (spelling : Spelling) (one : SpellsOne spelling) (s : State) (image : Image) (is : IsStateOf spelling s image) where
  -- nothing is refused but for lack of memory, and where the device fails
  pub free_of : (first : Bytes → Fault) (why : StoreError) → IsOpenAnswer spelling first image why → IsFailure why
  free_of first error.Memory answer = tt
  free_of first (error.Device cause) answer = tt
  free_of first error.Stopped answer = answer
  free_of first (error.Limit limit) answer = answer
  free_of first (error.Full need gap) answer = answer
  free_of first (error.Damaged d) answer = state_has_none spelling (filter_fault_of first) s image d one is answer
  free_of first error.NotAStore answer = no_store_has_no_state spelling s image answer is
  free_of first error.AlreadyAStore answer = answer
  free_of first (error.BadSettings field) answer = answer

  module _ (m : Manifest) (loaded : IsLoaded image m) where
    same_version : is.0 ≡ m.version
    same_version = one_version image is.0 m.version is.1.version_is (in_use_is spelling (λ bytes. record { place = 0; rule = 0 }) image m loaded)

    named : IsNamedBy spelling m.version s image
    named = subst (λ (v : Version). IsNamedBy spelling v s image) same_version is.1.named

    -- it has as many tables as its version has rows
    pub rows_many : length m.version.rows ≡ length s.tables
    rows_many = as_many spelling image m.version.rows s.tables named.tables

shown : (s : State) → s.job ≡ None → s.kept ≡ [] → s ≡ as_shown s
shown s no_job none_kept = λ i. record { settings = s.settings; pages = s.pages; epoch = s.epoch; log = s.log; tables = s.tables; job = no_job i; kept = none_kept i }

none_unnamed : (spelling : Spelling) (s : State) (image : Image) → s.job ≡ None → s.kept ≡ [] → UnnamedStand spelling s image
none_unnamed spelling s image no_job none_kept = subst (λ (t : State). UnnamedStand spelling t image) (sym (shown s no_job none_kept)) tt

-- the store that was opened is that of the state
module _ (spelling : Spelling) (filter_bytes : FilterBytes) (one : SpellsOne spelling) (s : State) (store : StoreValue) (image : Image) (is : IsStateOf spelling s image)
    (opened : IsOpenedAs spelling image store) where
  abbrev v : Version
  v = store.manifest.version

  named_so : IsNamedBy spelling v s image
  named_so = named spelling one s image is store.manifest opened.loaded

  same_log : opened.changes ≡ s.log
  same_log =
      let area : named_so.area ≡ opened.opens.area = omega (arith, named_so.area_is, opened.opens.area_is) in
      one_list opened.changes s.log (area_in opened.opens.area image) opened.opens.log (subst (λ (n : ℕ). LogIs n s.log image) area named_so.log)

  same_memory : source_in store.memory ≡ in_memory s
  same_memory = opened.memory ∙ ap source_of same_log

  under : RepresentsOn spelling store.manifest store.tables store.job s image
  under = record {
    ready = record {
      current = opened.loaded.stands.current;
      gate = opened.loaded.stands.gate;
      named = subst (λ (t : State). IsNamedBy spelling v t image) (shown s named_so.no_job named_so.none_kept) named_so;
      unnamed = none_unnamed spelling s image named_so.no_job named_so.none_kept;
    };
    tables = held_of spelling image one store.tables s.tables opened.tables
        (subst (λ (rs : List Row). AreTablesOf spelling rs s.tables image) (sym opened.rows) named_so.tables);
    job = none_run spelling s store.tables image store.job s.job opened.job named_so.no_job;
  }

  pub tied_of : (n : ℕ) (a b : World) → a.seen.held ≡ image → IsDurable a → ReadMoves n a b → Represents spelling filter_bytes store s b
  tied_of n a b held_is durable reads = record {
    sound = state_sound spelling filter_bytes s image is;
    none_kept = named_so.none_kept;
    images = reads_keep (RepresentsOn spelling store.manifest store.tables store.job s) n a b reads
        (λ left_image left. subst (RepresentsOn spelling store.manifest store.tables store.job s) (sym (durable left_image left ∙ held_is)) under);
    log = opened.log ∙ ap filled_by same_log;
    memory = ap (λ (source : Source). source.entries) same_memory;
    ranges = ap (λ (source : Source). source.ranges) same_memory;
    blocks = subst (λ (b : Cached). CacheAgrees b store.tables s.tables) (sym opened.none_kept) (none_true store.tables s.tables);
  }

  pub log_of : store.log.filled ≡ filled_by s.log
  log_of = opened.log ∙ ap filled_by same_log

  -- and the image shows it as that
  pub read_of : ReadsAs spelling filter_bytes store s image
  read_of = record {
    sound = state_sound spelling filter_bytes s image is;
    under = under;
    memory = ap (λ (source : Source). source.entries) same_memory;
    ranges = ap (λ (source : Source). source.ranges) same_memory;
  }

-- where its log ends, of such an image
pub opened_log : (spelling : Spelling) (first : Bytes → Fault) (filter_bytes : FilterBytes) (one : SpellsOne spelling) (s : State) (image : Image) (r : Result StoreValue StoreError)
    → IsStateOf spelling s image → MatchResult r (IsOpenedAs spelling image) (IsOpenAnswer spelling first image) → IfOk r (λ store. store.log.filled ≡ filled_by s.log)
opened_log spelling first filter_bytes one s image (Ok store) is opened = log_of spelling filter_bytes one s store image is opened
opened_log spelling first filter_bytes one s image (Err why) is answer = tt

-- what is read of an image that stands for a state
pub opened_shows : (spelling : Spelling) (first : Bytes → Fault) (filter_bytes : FilterBytes) (one : SpellsOne spelling) (s : State) (image : Image) (r : Result StoreValue StoreError)
    → IsStateOf spelling s image → MatchResult r (IsOpenedAs spelling image) (IsOpenAnswer spelling first image)
    → MatchResult r (λ store. ReadsAs spelling filter_bytes store s image) IsFailure
opened_shows spelling first filter_bytes one s image (Ok store) is opened = read_of spelling filter_bytes one s store image is opened
opened_shows spelling first filter_bytes one s image (Err why) is answer = free_of spelling one s image is first why answer

-- an answer of an image that stands for a state
pub opened_tied : (spelling : Spelling) (first : Bytes → Fault) (filter_bytes : FilterBytes) (one : SpellsOne spelling) (s : State) (image : Image) (n : ℕ) (a b : World) (r : Result StoreValue StoreError)
    → IsStateOf spelling s image → a.seen.held ≡ image → IsDurable a → ReadMoves n a b → MatchResult r (IsOpenedAs spelling image) (IsOpenAnswer spelling first image)
    → MatchResult r (λ store. Represents spelling filter_bytes store s b) IsFailure
opened_tied spelling first filter_bytes one s image n a b (Ok store) is held_is durable reads opened = tied_of spelling filter_bytes one s store image is opened n a b held_is durable reads
opened_tied spelling first filter_bytes one s image n a b (Err why) is held_is durable reads answer = free_of spelling one s image is first why answer

-- after a sync
pub synced_refusal : (a b c : World) (r : Result StoreValue StoreError) → SyncMoves a b → IfErr r (IsOpenRefusal b c) → IfErr r (IsOpenRefusal a c)
synced_refusal a b c (Ok store) sync is = tt
synced_refusal a b c (Err why) sync is = refusal_behind a b c (omega (arith, sync.read_faults)) sync.write_faults why is
