-- A store in memory, the device under it and a state are one.
use Rattle.std.specs.Prelude.{◌≡◌, List, [], Option}
use Rattle.disk_trait.specs.Image.{Image}
use Rattle.disk_trait.specs.World.{Now, World}
use Rattle.filter_api.specs.Spellings.{Spelling}
use Rattle.image_model.specs.Stands.{IsReady}
use Rattle.store_search.specs.TablesAgree.{TablesAgree}
use Rattle.level_merge.specs.JobValue.{JobValue}
use Rattle.manifest.specs.Manifest.{Manifest, other_place, place_of}
use Rattle.state_model.specs.Logs.{filled_by}
use Rattle.state_model.specs.Sound.{IsSound}
use Rattle.state_model.specs.State.{State}
use Rattle.state_model.specs.View.{in_memory, memory}
use Rattle.store_search.specs.Caching.{CacheAgrees}
use Rattle.store_core.specs.StoreValue.{StoreValue}
use Rattle.store_core.specs.Running.{RunsAs}
use Rattle.table_file.specs.Opened.{Opened}
use Rattle.table_model.specs.Tables.{FilterBytes}

-- The image has this version in its slot, and stands for the state, whose tables are those that are open, and whose job is the
-- merge that runs among them.
pub record RepresentsOn (spelling : Spelling) (m : Manifest) (opened : List Opened) (running : Option JobValue) (s : State) (image : Image) : Type 0 where
  pub ready : IsReady spelling (place_of m.slot) (other_place m.slot) m.other_open m.version s image
  pub tables : TablesAgree spelling opened s.tables image
  pub job : RunsAs spelling opened running s s.job image

-- The state is sound; each image that a crash may leave now stands for it, as the store has it, with the merge that runs; the log
-- in memory ends after the state's entries, of which the newest are in the memory table; and each block that is kept says what
-- its table says.
pub record Represents (spelling : Spelling) (filter_bytes : FilterBytes) (store : StoreValue) (s : State) (w : World) : Type 0 where
  pub sound : IsSound filter_bytes s
  pub none_kept : s.kept ≡ []
  pub images : Now (RepresentsOn spelling store.manifest store.tables store.job s) w
  pub log : store.log.filled ≡ filled_by s.log
  pub memory : store.memory.entries ≡ memory s
  pub ranges : store.memory.ranges ≡ (in_memory s).ranges
  pub blocks : CacheAgrees store.blocks store.tables s.tables

-- An image of the device shows the store as that of a sound state: it has the version of the store and the state's tables, and
-- the newest entries of the state's log are in memory.
pub record ReadsAs (spelling : Spelling) (filter_bytes : FilterBytes) (store : StoreValue) (s : State) (image : Image) : Type 0 where
  pub sound : IsSound filter_bytes s
  pub under : RepresentsOn spelling store.manifest store.tables store.job s image
  pub memory : store.memory.entries ≡ memory s
  pub ranges : store.memory.ranges ≡ (in_memory s).ranges
