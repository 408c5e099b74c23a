-- What a flush writes and installs, why it does not, and what it makes of a store.
use Rattle.std.specs.Prelude.{◌≡◌, ◌⊎◌, ◌<◌, ◌≤◌, ◌+◌, ◌-◌, ℕ, List, [], ◌∷◌, filter, length, true, Option, Some, None, Result, IfErr, OnOk}
use Rattle.std.specs.Option.{option_map}
use Rattle.std.specs.Borrow.{Bor}
use Rattle.byte_fields.specs.declared.parts.Row.{Row}
use Rattle.disk_trait.specs.World.{Meanwhile, Now, Rose, World}
use Rattle.entry_model.specs.Entries.{Entry, put_entry}
use Rattle.entry_model.specs.Newest.{with_entry}
use Rattle.extent_model.specs.Gaps.{first_gap, largest_gap}
use Rattle.filter_api.specs.Spellings.{Spelling}
use Rattle.filter_model.specs.Leaves.{Leaf}
use Rattle.image_model.specs.Stands.{StandsForMap, settings_of}
use Rattle.key_base.specs.ByteOrder.{is_before}
use Rattle.key_base.specs.Limits.{last_epoch, max_tables}
use Rattle.manifest.specs.Manifest.{Manifest, raised}
use Rattle.manifest.specs.declared.fault.ManifestFault.{ManifestFault}
use Rattle.manifest.specs.declared.fault.ManifestFault.TheVariants as fault
use Rattle.manifest_model.specs.Version.{Version, log_page_of}
use Rattle.map_model.specs.SortedMap.{Bytes}
use Rattle.range_model.specs.Sources.{Sets, alone}
use Rattle.state_model.specs.Changes.{logged}
use Rattle.state_model.specs.State.{State}
use Rattle.state_model.specs.View.{in_memory, memory, state_map}
use Rattle.store_core.specs.Answers.{is_write}
use Rattle.store_core.specs.StoreValue.{StoreValue}
use Rattle.store_core.specs.Running.{extents_with}
use Rattle.store_core.specs.Represents.{RepresentsOn}
use Rattle.store_core.specs.declared.error.Limit.{Limit}
use Rattle.store_core.specs.declared.error.Limit.TheVariants as limit
use Rattle.store_core.specs.declared.error.StoreError.{StoreError}
use Rattle.store_core.specs.declared.error.StoreError.TheVariants as error
use Rattle.table_file.specs.Building.{Built}
use Rattle.table_file.specs.Writing.{made_row}
pub use Rattle.table_file.specs.Writing.{opened_of}
use Rattle.table_model.specs.Tables.{FilterBytes, filter_bytes_of, table_of, table_pages}

-- ---- what is flushed

-- an entry that is put over the memory, as it is handed in
abbrev pub over_of : Option (Bor Bytes × Bor Bytes) → Option Entry
over_of over = option_map (λ (pair : Bor Bytes × Bor Bytes). put_entry pair.0.now pair.1.now) over

-- the entries of the memory, with this one over them where there is one
abbrev pub entries_with : List Entry → Option Entry → List Entry
entries_with entries None = entries
entries_with entries (Some entry) = with_entry entries entry

-- the state of whose memory entries these are
abbrev pub state_with : State → Option Entry → State
state_with s None = s
state_with s (Some entry) = logged s (Sets entry)

-- the entries below a key, and those above it: between them an entry of the key has its place
abbrev pub entries_below : List Entry → Bytes → List Entry
entries_below entries key = filter (λ (e : Entry). is_before e.key key) entries

abbrev pub entries_above : List Entry → Bytes → List Entry
entries_above entries key = filter (λ (e : Entry). is_before key e.key) entries

-- The one state is the other but for its log, which may be one that fits no log area, and makes no deleted range.
abbrev pub DiffersInLog : State → State → Type 0
DiffersInLog s over = (over ≡ record s { log = over.log }) × (in_memory over ≡ alone (memory over))

-- ---- the version to come

-- the first page of the log area that is not in use
abbrev pub other_log_page : Version → ℕ
other_log_page v = log_page_of 0 + log_page_of 1 - v.log_page

-- a row more, before all others, and the other log area; the epoch is raised by the install
abbrev pub next_manifest : Manifest → Row → Manifest
next_manifest m row = record m { version = record m.version { log_page = other_log_page m.version; rows = row ∷ m.version.rows } }

-- what it is once it was installed
abbrev pub installed_manifest : Manifest → Manifest
installed_manifest m = record { version = raised m.version; slot = 1 - m.slot; other_open = true }

-- ---- what is planned

-- the pages that the table of some entries needs under a version
abbrev pub need_under : FilterBytes → Version → List Entry → ℕ
need_under filter_bytes v entries = table_pages filter_bytes (settings_of v) entries

-- The table of the entries, in the first gap that holds it beside the outputs of a merge, and the version in which it is the
-- first: fewer tables than the most stood before it, and an epoch is left.
pub record IsPlan (spelling : Spelling) (built_cutoff : ℕ → List Leaf → ℕ) (m : Manifest) (outputs : List Row) (entries : List Entry) (parts : Built) (row : Row) (next : Manifest) : Type 0 where
  pub few : length m.version.rows < max_tables
  pub parts_are : parts ≡ record { settings = settings_of m.version; entries = entries; ranges = [] }
  pub place : first_gap m.version.pages (extents_with m.version outputs) (need_under (filter_bytes_of spelling built_cutoff) m.version entries) ≡ Some row.first_page
  pub epoch : m.version.epoch < last_epoch
  pub row_is : row ≡ made_row spelling built_cutoff parts 0 row.first_page
  pub next_is : next ≡ next_manifest m row

-- no gap holds a given number of pages, and the largest has fewer
abbrev pub IsNoPlace : ℕ → ℕ → StoreError → Type 0
IsNoPlace need largest error.Memory = Unit {0}
IsNoPlace need largest (error.Device cause) = ⊥
IsNoPlace need largest error.Stopped = ⊥
IsNoPlace need largest (error.Limit limit) = ⊥
IsNoPlace need largest (error.Full wanted gap) = (wanted ≡ need) × (gap ≡ largest) × (largest < need)
IsNoPlace need largest (error.Damaged damage) = ⊥
IsNoPlace need largest error.NotAStore = ⊥
IsNoPlace need largest error.AlreadyAStore = ⊥
IsNoPlace need largest (error.BadSettings field) = ⊥

-- the same where the pages are known; where they are not there is no refusal
abbrev pub IsNoRoomFor : Option ℕ → ℕ → StoreError → Type 0
IsNoRoomFor None largest why = ⊥
IsNoRoomFor (Some need) largest why = IsNoPlace need largest why

-- where it tells of lack of room, it names a given number of pages
abbrev pub IsFullFor : ℕ → StoreError → Type 0
IsFullFor need error.Memory = Unit {0}
IsFullFor need (error.Device cause) = Unit {0}
IsFullFor need error.Stopped = Unit {0}
IsFullFor need (error.Limit limit) = Unit {0}
IsFullFor need (error.Full wanted gap) = wanted ≡ need
IsFullFor need (error.Damaged damage) = Unit {0}
IsFullFor need error.NotAStore = Unit {0}
IsFullFor need error.AlreadyAStore = Unit {0}
IsFullFor need (error.BadSettings field) = Unit {0}

-- by a limit: first the tables, and after the room beside the outputs the epoch
abbrev pub IsPlanLimit : FilterBytes → Version → List Row → List Entry → Limit → Type 0
IsPlanLimit filter_bytes v outputs entries (limit.Key size) = ⊥
IsPlanLimit filter_bytes v outputs entries (limit.Value size) = ⊥
IsPlanLimit filter_bytes v outputs entries limit.Tables = max_tables ≤ length v.rows
IsPlanLimit filter_bytes v outputs entries limit.Epoch =
    (length v.rows < max_tables) × (need_under filter_bytes v entries ≤ largest_gap v.pages (extents_with v outputs)) × (v.epoch ≡ last_epoch)

-- why nothing is planned for some entries under a version, beside the outputs of a merge
abbrev pub IsPlanRefusal : FilterBytes → Version → List Row → List Entry → StoreError → Type 0
IsPlanRefusal filter_bytes v outputs entries error.Memory = Unit {0}
IsPlanRefusal filter_bytes v outputs entries (error.Device cause) = ⊥
IsPlanRefusal filter_bytes v outputs entries error.Stopped = ⊥
IsPlanRefusal filter_bytes v outputs entries (error.Limit limit) = IsPlanLimit filter_bytes v outputs entries limit
IsPlanRefusal filter_bytes v outputs entries (error.Full need gap) =
    (length v.rows < max_tables) × IsNoPlace (need_under filter_bytes v entries) (largest_gap v.pages (extents_with v outputs)) (error.Full need gap)
IsPlanRefusal filter_bytes v outputs entries (error.Damaged damage) = ⊥
IsPlanRefusal filter_bytes v outputs entries error.NotAStore = ⊥
IsPlanRefusal filter_bytes v outputs entries error.AlreadyAStore = ⊥
IsPlanRefusal filter_bytes v outputs entries (error.BadSettings field) = ⊥

-- ---- what is made of it

-- the state after a flush whose table begins at a page
abbrev pub flushed_at : FilterBytes → ℕ → State → State
flushed_at filter_bytes page s = record s { epoch = s.epoch + 1; log = []; tables = table_of filter_bytes s.settings 0 page (memory s) ∷ s.tables }

-- memory is wanted before a slot is touched; a write or a sync failed, and only where the count of such failures rose
abbrev pub IsFlushFault : World → World → ManifestFault → Type 0
IsFlushFault old new fault.Memory = Unit {0}
IsFlushFault old new (fault.Device cause) = (is_write cause.op ≡ true) × Rose old.seen.write_faults new.seen.write_faults
IsFlushFault old new fault.NotAStore = ⊥
IsFlushFault old new fault.AlreadyAStore = ⊥
IsFlushFault old new fault.Epoch = ⊥
IsFlushFault old new (fault.Damaged damage) = ⊥

-- What is planned of the memory entries of `over` is written: meanwhile a crash leaves the map of the state or that of `over`,
-- which are one where nothing is put over the memory; at Ok the state after the flush holds under the new manifest with the new
-- table; and where memory was wanted all is as it was, and a crash leaves the map of the state alone.
pub record FlushedTo {T : Type 0} (spelling : Spelling) (built_cutoff : ℕ → List Leaf → ℕ) (store : StoreValue) (s over : State) (parts : Built) (row : Row) (next : Manifest)
    (result : Result T ManifestFault) (old new : World) : Type 0 where
  pub meanwhile : Meanwhile (λ image. StandsForMap spelling (state_map s) image ⊎ StandsForMap spelling (state_map over) image) old new
  pub done : OnOk result (Now (RepresentsOn spelling (installed_manifest next) (opened_of built_cutoff parts row ∷ store.tables) store.job
      (flushed_at (filter_bytes_of spelling built_cutoff) row.first_page over)) new)
  pub wanted : IfErr result (λ (why : ManifestFault). why ≡ fault.Memory → Now (RepresentsOn spelling store.manifest store.tables store.job s) new)
  pub unmoved : IfErr result (λ (why : ManifestFault). why ≡ fault.Memory → Meanwhile (StandsForMap spelling (state_map s)) old new)
