-- Why a store is not opened, and what one that is opened is.
use Rattle.std.specs.Prelude.{◌≡◌, ◌⊎◌, ◌+◌, ◌-◌, ℕ, true, List, [], ◌∷◌, length, map, Option, Some, None}
use Rattle.byte_fields.specs.Faults.{Fault}
use Rattle.byte_fields.specs.declared.parts.Damage.{Damage}
use Rattle.byte_fields.specs.declared.parts.Damage.TheVariants as damage
use Rattle.byte_fields.specs.declared.parts.Part.TheVariants as part
use Rattle.byte_fields.specs.declared.parts.Row.{Row}
use Rattle.disk_trait.specs.Image.{Image}
use Rattle.disk_trait.specs.World.{Rose, World}
use Rattle.disk_trait.specs.declared.fault.DiskFault.{DiskFault}
use Rattle.filter_api.specs.Spellings.{Spelling}
use Rattle.image_model.specs.Opening.{FirstDamage, OpensWith, TablesBreak}
use Rattle.log_model.specs.Changes.{filled_by}
use Rattle.manifest.specs.Loading.{IsLoaded}
use Rattle.manifest.specs.Manifest.{Manifest, place_of}
use Rattle.manifest_model.specs.Slots.{IsNoStore}
use Rattle.manifest_model.specs.Tables.{KeyRange, ranges_fault}
use Rattle.manifest_model.specs.Version.{body_place}
use Rattle.map_model.specs.SortedMap.{Bytes}
use Rattle.mem_table.specs.Table.{source_in}
use Rattle.range_model.specs.Sources.{Change, source_of}
use Rattle.store_core.specs.Answers.{is_write}
use Rattle.store_search.specs.Caching.{none_cached}
use Rattle.store_search.specs.Searching.{ReadRose}
use Rattle.store_core.specs.StoreValue.{StoreValue, rows_of}
use Rattle.store_core.specs.declared.error.StoreError.{StoreError}
use Rattle.store_core.specs.declared.error.StoreError.TheVariants as error
use Rattle.table_file.specs.Faults.{filter_fault_of}
use Rattle.table_file.specs.Opened.{IsOpen, Opened}
use Rattle.table_file.specs.Search.{row_at}

-- ---- tables

-- they are open, one after the other
abbrev pub AreOpened : Spelling → List Opened → Image → Type 0
AreOpened spelling [] image = Unit {0}
AreOpened spelling (opened ∷ more) image = IsOpen spelling opened image × AreOpened spelling more image

-- the level of an open table, and its least and its greatest key
abbrev pub opened_range : Opened → KeyRange
opened_range t = record { level = t.row.level; least = t.index.least; greatest = (row_at t.index.rows (length t.index.rows - 1)).last; reach = [] }

-- the damage of the tables of some rows is the first of them
abbrev pub IsTablesAnswer : Spelling → (Bytes → Fault) → List Row → Image → StoreError → Type 0
IsTablesAnswer spelling first rows image error.Memory = Unit {0}
IsTablesAnswer spelling first rows image (error.Device cause) = Unit {0}
IsTablesAnswer spelling first rows image error.Stopped = ⊥
IsTablesAnswer spelling first rows image (error.Limit limit) = ⊥
IsTablesAnswer spelling first rows image (error.Full need gap) = ⊥
IsTablesAnswer spelling first rows image (error.Damaged d) = TablesBreak spelling (filter_fault_of first) image d rows
IsTablesAnswer spelling first rows image error.NotAStore = ⊥
IsTablesAnswer spelling first rows image error.AlreadyAStore = ⊥
IsTablesAnswer spelling first rows image (error.BadSettings field) = ⊥

-- of one row
abbrev pub IsTableAnswer : Spelling → (Bytes → Fault) → Row → Image → StoreError → Type 0
IsTableAnswer spelling first row image why = IsTablesAnswer spelling first (row ∷ []) image why

-- the fault of the ranges, by its place on the device in the slot in use
abbrev pub IsRangesDamage : ℕ → Option Fault → Damage → Type 0
IsRangesDamage slot found d = (f : Fault) × (found ≡ Some f) × (d ≡ damage.Shape part.Manifest (body_place (place_of slot) + f.place) f.rule)

-- ---- the whole

-- a version of the image is loaded, these are the open tables of its rows, and their ranges break no rule
pub record IsVersionOpened (spelling : Spelling) (image : Image) (m : Manifest) (ts : List Opened) : Type 0 where
  pub loaded : IsLoaded image m
  pub rows : rows_of ts ≡ m.version.rows
  pub tables : AreOpened spelling ts image
  pub ranges : ranges_fault (map opened_range ts) ≡ None

-- The image opens with the version of the store, which is in its slot, and with some log: the one in memory ends after its
-- changes, what they make is in the memory table, the open tables are those of the version's rows, no merge runs, and no
-- block is kept.
pub record IsOpenedAs (spelling : Spelling) (image : Image) (store : StoreValue) : Type 0 where
  pub loaded : IsLoaded image store.manifest
  pub changes : List Change
  pub opens : OpensWith spelling store.manifest.version changes image
  pub rows : rows_of store.tables ≡ store.manifest.version.rows
  pub tables : AreOpened spelling store.tables image
  pub job : store.job ≡ None
  pub log : store.log.filled ≡ filled_by changes
  pub memory : source_in store.memory ≡ source_of changes
  pub none_kept : store.blocks ≡ none_cached

-- no store exactly where no slot is open, and damage is the first of the image
abbrev pub IsOpenAnswer : Spelling → (Bytes → Fault) → Image → StoreError → Type 0
IsOpenAnswer spelling first image error.Memory = Unit {0}
IsOpenAnswer spelling first image (error.Device cause) = Unit {0}
IsOpenAnswer spelling first image error.Stopped = ⊥
IsOpenAnswer spelling first image (error.Limit limit) = ⊥
IsOpenAnswer spelling first image (error.Full need gap) = ⊥
IsOpenAnswer spelling first image (error.Damaged d) = FirstDamage spelling (filter_fault_of first) image d
IsOpenAnswer spelling first image error.NotAStore = IsNoStore image
IsOpenAnswer spelling first image error.AlreadyAStore = ⊥
IsOpenAnswer spelling first image (error.BadSettings field) = ⊥

-- ---- whatever the device is

-- a call failed, and only where the count of such failures rose
abbrev pub FaultRose : World → World → DiskFault → Type 0
FaultRose old new cause = ReadRose old new cause ⊎ ((is_write cause.op ≡ true) × Rose old.seen.write_faults new.seen.write_faults)

-- of a read alone
abbrev pub IsOpenFault : World → World → StoreError → Type 0
IsOpenFault old new error.Memory = Unit {0}
IsOpenFault old new (error.Device cause) = ReadRose old new cause
IsOpenFault old new error.Stopped = ⊥
IsOpenFault old new (error.Limit limit) = ⊥
IsOpenFault old new (error.Full need gap) = ⊥
IsOpenFault old new (error.Damaged damage) = Unit {0}
IsOpenFault old new error.NotAStore = ⊥
IsOpenFault old new error.AlreadyAStore = ⊥
IsOpenFault old new (error.BadSettings field) = ⊥

-- or of the sync before it
abbrev pub IsOpenRefusal : World → World → StoreError → Type 0
IsOpenRefusal old new error.Memory = Unit {0}
IsOpenRefusal old new (error.Device cause) = FaultRose old new cause
IsOpenRefusal old new error.Stopped = ⊥
IsOpenRefusal old new (error.Limit limit) = ⊥
IsOpenRefusal old new (error.Full need gap) = ⊥
IsOpenRefusal old new (error.Damaged damage) = Unit {0}
IsOpenRefusal old new error.NotAStore = Unit {0}
IsOpenRefusal old new error.AlreadyAStore = ⊥
IsOpenRefusal old new (error.BadSettings field) = ⊥
