-- What a store keeps in memory.
use Rattle.std.specs.Prelude.{◌≡◌, ◌<◌, ◌≤◌, Bool, List, length, map, Option}
use Rattle.std.specs.List.{AllByRecursion}
use Rattle.byte_fields.specs.declared.parts.Row.{Row}
use Rattle.key_base.specs.Limits.{log_bytes}
use Rattle.level_merge.specs.JobValue.{JobValue}
use Rattle.log_model.specs.Area.{Position}
use Rattle.log_model.specs.Changes.{IsLoggedChange, filled_by}
use Rattle.manifest.specs.Manifest.{Manifest}
use Rattle.manifest_model.specs.Laws.{IsVersion}
use Rattle.manifest_model.specs.Version.{log_page_of}
use Rattle.map_model.specs.SortedMap.{Bytes}
use Rattle.mem_table.specs.Table.{MemoryTable, source_in}
use Rattle.range_model.specs.Sources.{Change, Source, source_of}
use Rattle.store_search.specs.Caching.{AreNumbered, Cached}
use Rattle.table_file.specs.Opened.{Opened}
use Rattle.store_core.specs.Running.{MayRunIn}

-- whether it is stopped, its version, the open table of each row, the merge that runs, where its log goes on, what the changes of
-- the log make, the bytes that were read or built last, and the blocks that gets keep
pub record StoreValue : Type 0 where
  pub stopped : Bool
  pub manifest : Manifest
  pub tables : List Opened
  pub job : Option JobValue
  pub log : Position
  pub memory : MemoryTable
  pub buffer : Bytes
  pub blocks : Cached

-- the rows of open tables
abbrev pub rows_of : List Opened → List Row
rows_of tables = map (λ (t : Opened). t.row) tables

-- the log ends after the records of some changes, and what they make is in memory
pub record IsOfChanges (log : Position) (memory : Source) : Type 0 where
  pub changes : List Change
  pub sound : AllByRecursion IsLoggedChange changes
  pub fits : filled_by changes < log_bytes
  pub filled_is : log.filled ≡ filled_by changes
  pub memory_is : memory ≡ source_of changes

-- what is so of each store, whatever its device holds
pub record IsConsistent (store : StoreValue) : Type 0 where
  pub version : IsVersion store.manifest.version
  pub slot : store.manifest.slot ≤ 1
  pub rows : rows_of store.tables ≡ store.manifest.version.rows
  pub area : store.manifest.version.log_page ≡ log_page_of store.log.area
  pub changes : IsOfChanges store.log (source_in store.memory)
  pub job : MayRunIn store.manifest.version store.tables store.job
  pub numbered : AreNumbered store.blocks (length store.tables)
