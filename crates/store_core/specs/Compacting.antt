-- What a compaction makes of a store, and why it is refused.
use Rattle.std.specs.Prelude.{◌≡◌, ◌≢◌, ◌⊎◌, ◌<◌, ◌≤◌, ◌+◌, ◌++◌, ℕ, Bool, false, true, List, [], map, length, take, None, Result, Ok, Err, IsOk}
use Rattle.std.specs.List.{AllByRecursion}
use Rattle.block_model.specs.Index.{row_pages}
use Rattle.byte_fields.specs.declared.parts.Row.{Row}
use Rattle.disk_trait.specs.World.{Now, Rose, World}
use Rattle.disk_trait.specs.declared.fault.DiskFault.{DiskFault}
use Rattle.entry_model.specs.Entries.{Entry}
use Rattle.extent_model.specs.Extents.{AreLaid}
use Rattle.filter_api.specs.Spellings.{Spelling}
use Rattle.key_base.specs.Limits.{last_epoch, max_level, max_tables}
use Rattle.store_search.specs.TablesAgree.{TablesAgree}
use Rattle.level_merge.specs.declared.fault.JobFault.{JobFault}
use Rattle.level_merge.specs.declared.fault.JobFault.TheVariants as job
use Rattle.line_model.specs.Replies.{LastEpoch}
use Rattle.log_model.specs.Area.{Position}
use Rattle.manifest.specs.Manifest.{Manifest}
use Rattle.manifest_model.specs.Laws.{IsVersion}
use Rattle.manifest_model.specs.Rows.{IsTableRow, extent_of}
use Rattle.manifest_model.specs.Version.{Version, log_page_of}
use Rattle.state_model.specs.Changes.{compacted_outputs}
use Rattle.state_model.specs.Merges.{NoRoom, placed}
use Rattle.state_model.specs.Sound.{IsSound}
use Rattle.state_model.specs.State.{State}
use Rattle.state_model.specs.Taken.{taken}
use Rattle.state_model.specs.View.{memory}
use Rattle.store_core.specs.Answers.{is_write, stops, told_limit}
use Rattle.store_core.specs.Flushing.{other_log_page}
use Rattle.store_search.specs.Searching.{ReadRose}
use Rattle.store_core.specs.StoreValue.{rows_of}
use Rattle.store_core.specs.Opening.{FaultRose}
use Rattle.store_core.specs.Represents.{RepresentsOn}
use Rattle.store_core.specs.declared.error.StoreError.{StoreError}
use Rattle.store_core.specs.declared.error.StoreError.TheVariants as error
use Rattle.table_file.specs.Faults.{IsBlockDamage}
use Rattle.table_file.specs.Opened.{Opened}
use Rattle.table_model.specs.Tables.{FilterBytes, Table}

-- ---- whatever the device is

-- the blocks of a table have as many pages as its row says
abbrev pub HasItsPages : Opened → Type 0
HasItsPages t = row_pages t.index.rows ≡ t.row.data_pages

-- why a compaction is refused, of a store that was stopped or not, whose version has this epoch
abbrev pub IsCompactRefusal : Bool → ℕ → World → World → StoreError → Type 0
IsCompactRefusal stopped epoch old new error.Memory = stopped ≡ false
IsCompactRefusal stopped epoch old new (error.Device cause) = (stopped ≡ false) × FaultRose old new cause
IsCompactRefusal stopped epoch old new error.Stopped = stopped ≡ true
IsCompactRefusal stopped epoch old new (error.Limit limit) = (stopped ≡ false) × (told_limit limit ≡ LastEpoch) × (epoch ≡ last_epoch)
IsCompactRefusal stopped epoch old new (error.Full need gap) = (stopped ≡ false) × (gap < need)
IsCompactRefusal stopped epoch old new (error.Damaged damage) = (stopped ≡ false) × IsBlockDamage damage
IsCompactRefusal stopped epoch old new error.NotAStore = ⊥
IsCompactRefusal stopped epoch old new error.AlreadyAStore = ⊥
IsCompactRefusal stopped epoch old new (error.BadSettings field) = ⊥

-- why its tables are not all written, and why it fails once it is begun: at no limit
abbrev pub IsWritingFault : World → World → JobFault → Type 0
IsWritingFault old new job.Memory = Unit {0}
IsWritingFault old new (job.Device cause) = FaultRose old new cause
IsWritingFault old new (job.Damaged damage) = IsBlockDamage damage
IsWritingFault old new (job.Full need gap) = gap < need

abbrev pub IsCompactFault : World → World → StoreError → Type 0
IsCompactFault old new error.Memory = Unit {0}
IsCompactFault old new (error.Device cause) = FaultRose old new cause
IsCompactFault old new error.Stopped = ⊥
IsCompactFault old new (error.Limit limit) = ⊥
IsCompactFault old new (error.Full need gap) = gap < need
IsCompactFault old new (error.Damaged damage) = IsBlockDamage damage
IsCompactFault old new error.NotAStore = ⊥
IsCompactFault old new error.AlreadyAStore = ⊥
IsCompactFault old new (error.BadSettings field) = ⊥

-- Tables of the last level, which lie apart from one another and from those of a version, and no more than a version may have.
pub record AreCompact (v : Version) (rows : List Row) : Type 0 where
  pub few : length rows ≤ max_tables
  pub each : AllByRecursion IsTableRow rows
  pub deepest : AllByRecursion (λ (row : Row). row.level ≡ max_level) rows
  pub laid : AreLaid v.pages (map extent_of (v.rows ++ rows))

-- the version in which some tables are alone, and the other log area is in use
abbrev pub compacted_manifest : Manifest → List Row → Manifest
compacted_manifest m rows = record m { version = record m.version { log_page = other_log_page m.version; rows = rows } }

-- what is installed is a version of the device, that of these tables and of a log without records
pub record IsInstalledWhole (old m : Manifest) (opened : List Opened) (log : Position) : Type 0 where
  pub version : IsVersion m.version
  pub slot : m.slot ≤ 1
  pub rows : rows_of opened ≡ m.version.rows
  pub area : m.version.log_page ≡ log_page_of log.area
  pub begun : log.filled ≡ 0
  pub pages : m.version.pages ≡ old.version.pages

-- ---- on a device that stands for a state

-- Each image that a crash may leave now has this version and these tables, and stands for the state, which is sound and has no
-- job; these entries are the newest of its log.
pub record IsHeldBy (spelling : Spelling) (filter_bytes : FilterBytes) (m : Manifest) (opened : List Opened) (entries : List Entry) (s : State) (w : World) : Type 0 where
  pub sound : IsSound filter_bytes s
  pub no_job : s.job ≡ None
  pub none_kept : s.kept ≡ []
  pub images : Now (RepresentsOn spelling m opened None s) w
  pub memory : entries ≡ memory s

-- what its live pairs become, and the first of these tables
abbrev pub compact_tables : FilterBytes → State → Result (List Table) NoRoom
compact_tables filter_bytes s = placed filter_bytes s.settings s.pages (taken s) max_level (compacted_outputs s)

abbrev pub first_compact_table : FilterBytes → State → Result (List Table) NoRoom
first_compact_table filter_bytes s = placed filter_bytes s.settings s.pages (taken s) max_level (take 1 (compacted_outputs s))

-- the state in which they are alone
abbrev pub compacted_into : List Table → State → State
compacted_into tables s = record s { epoch = s.epoch + 1; log = []; tables = tables; job = None }

-- A read failed, where there are tables; or a write or a sync, where the first table has room.
abbrev pub IsFailedCall : FilterBytes → State → World → World → DiskFault → Type 0
IsFailedCall filter_bytes s old new cause =
    (ReadRose old new cause × (s.tables ≢ [])) ⊎ ((is_write cause.op ≡ true) × Rose old.seen.write_faults new.seen.write_faults × IsOk (first_compact_table filter_bytes s))

-- Lack of memory; a call that failed; or a table that has no room.
abbrev pub IsWritingCause : FilterBytes → State → World → World → JobFault → Type 0
IsWritingCause filter_bytes s old new job.Memory = Unit {0}
IsWritingCause filter_bytes s old new (job.Device cause) = IsFailedCall filter_bytes s old new cause
IsWritingCause filter_bytes s old new (job.Damaged damage) = ⊥
IsWritingCause filter_bytes s old new (job.Full need gap) = compact_tables filter_bytes s ≡ Err (record { need = need; gap = gap })

abbrev pub IsCompactCause : FilterBytes → State → World → World → StoreError → Type 0
IsCompactCause filter_bytes s old new error.Memory = Unit {0}
IsCompactCause filter_bytes s old new (error.Device cause) = IsFailedCall filter_bytes s old new cause
IsCompactCause filter_bytes s old new error.Stopped = ⊥
IsCompactCause filter_bytes s old new (error.Limit limit) = ⊥
IsCompactCause filter_bytes s old new (error.Full need gap) = compact_tables filter_bytes s ≡ Err (record { need = need; gap = gap })
IsCompactCause filter_bytes s old new (error.Damaged damage) = ⊥
IsCompactCause filter_bytes s old new error.NotAStore = ⊥
IsCompactCause filter_bytes s old new error.AlreadyAStore = ⊥
IsCompactCause filter_bytes s old new (error.BadSettings field) = ⊥

-- these open tables are those, and are on each image that a crash may leave now
pub record AreAllMade (spelling : Spelling) (filter_bytes : FilterBytes) (s : State) (made : List Opened) (w : World) : Type 0 where
  pub tables : List Table
  pub placed_so : compact_tables filter_bytes s ≡ Ok tables
  pub held : Now (TablesAgree spelling made tables) w

-- they are alone, under this version
pub record StandAlone (spelling : Spelling) (filter_bytes : FilterBytes) (s : State) (m : Manifest) (opened : List Opened) (w : World) : Type 0 where
  pub tables : List Table
  pub placed_so : compact_tables filter_bytes s ≡ Ok tables
  pub images : Now (RepresentsOn spelling m opened None (compacted_into tables s)) w

-- why it fails; where the store is not stopped by it, all is as it was
pub record FailsSo (spelling : Spelling) (filter_bytes : FilterBytes) (m : Manifest) (opened : List Opened) (s : State) (old new : World) (why : StoreError) : Type 0 where
  pub cause : IsCompactCause filter_bytes s old new why
  pub stays : stops why ≡ false → Now (RepresentsOn spelling m opened None s) new
