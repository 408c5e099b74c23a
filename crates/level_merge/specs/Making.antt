-- What a merge still makes of its tables, which tables it has made, and what a merge slice makes of that.
use Rattle.std.specs.Prelude.{◌≡◌, ◌≢◌, ◌⊎◌, ◌<◌, ◌≤◌, ◌++◌, ℕ, List, [], ◌∷◌, map, length, Some, Result, MatchResult}
use Rattle.std.specs.List.Sorted.{IsPermutation}
use Rattle.disk_trait.specs.Image.{Image}
use Rattle.disk_trait.specs.World.{Now, Rose, World}
use Rattle.disk_trait.specs.declared.fault.Op.TheVariants.{Read}
use Rattle.entry_model.specs.Entries.{Entry}
use Rattle.extent_map.specs.Taken.{Taken}
use Rattle.extent_model.specs.Extents.{Extent}
use Rattle.extent_model.specs.Gaps.{first_gap, largest_gap}
use Rattle.filter_api.specs.Spellings.{Spelling}
use Rattle.filter_api.specs.declared.settings.Settings.{Settings}
use Rattle.store_search.specs.TablesAgree.{TablesAgree}
use Rattle.level_merge.specs.JobValue.{AreAllWritten, JobValue, outputs_left}
use Rattle.level_merge.specs.Outputs.{extent_at}
use Rattle.level_merge.specs.declared.fault.JobFault.{JobFault}
use Rattle.level_merge.specs.declared.fault.JobFault.TheVariants as fault
use Rattle.level_merge.specs.declared.fault.Sliced.{Sliced}
use Rattle.level_merge.specs.declared.fault.Sliced.TheVariants as sliced
use Rattle.merge_rows.specs.Reads.{blocks_left}
use Rattle.merge_rows.specs.Steps.{IsSoundMerge, numbers, stands}
use Rattle.table_file.specs.Opened.{Opened}
use Rattle.table_model.specs.Tables.{FilterBytes, Table, table_of, table_pages}

-- these outputs are still to make, and these tables are made and are on the device
pub record OutputsLeft (spelling : Spelling) (opened : List Opened) (image : Image) (m : JobValue) (left : List (List Entry)) (made : List Table) : Type 0 where
  pub sound : IsSoundMerge m.merge opened image
  pub left_are : outputs_left m opened image ≡ left
  pub rows : AreAllWritten m
  pub made_are : TablesAgree spelling m.made made image

-- the extents of the tables that it reads, of those that it has made and of some others are taken, in any order
abbrev pub merge_extents : List Opened → List Opened → List Extent → List Extent
merge_extents opened made others = map (λ (t : Opened). extent_at t.row) opened ++ (map (λ (t : Opened). extent_at t.row) made ++ others)

abbrev pub AreTakenBy : List Opened → List Opened → List Extent → Taken → Type 0
AreTakenBy opened made others taken = IsPermutation taken.extents (merge_extents opened made others)

-- the first of the outputs that are left has a place: the first gap that holds it
pub record HasPlace (filter_bytes : FilterBytes) (settings : Settings) (free : Taken) (left later : List (List Entry)) : Type 0 where
  pub output : List Entry
  pub page : ℕ
  pub first : left ≡ output ∷ later
  pub place : first_gap free.pages free.extents (table_pages filter_bytes settings output) ≡ Some page

-- it is a table there
pub record FirstOutput (filter_bytes : FilterBytes) (m : JobValue) (free taken : Taken) (left later : List (List Entry)) (made now : List Table) : Type 0 where
  pub placed : HasPlace filter_bytes m.settings free left later
  pub made_is : now ≡ made ++ table_of filter_bytes m.settings m.output placed.page placed.output ∷ []
  pub extents : IsPermutation ((placed.page, table_pages filter_bytes m.settings placed.output) ∷ free.extents) taken.extents
  pub pages : taken.pages ≡ free.pages

-- the same is left and made, or the first of what is left is made
abbrev pub OneOutput : FilterBytes → JobValue → Taken → Taken → List (List Entry) → List (List Entry) → List Table → List Table → Type 0
OneOutput filter_bytes m free taken left later made now = ((later ≡ left) × (now ≡ made) × (taken ≡ free)) ⊎ FirstOutput filter_bytes m free taken left later made now

-- a block to read or an output to make is left
abbrev pub IsMoreLeft : List Opened → JobValue → List (List Entry) → Type 0
IsMoreLeft opened m later = (1 ≤ blocks_left opened m.merge.walks) ⊎ (later ≢ [])

-- blocks were read or an output was made, and more is left; or nothing is left, neither to read nor to make
abbrev pub AnswersProgress : List Opened → JobValue → JobValue → List (List Entry) → List Table → List Table → Sliced → Type 0
AnswersProgress opened old new later made now sliced.Working =
    ((blocks_left opened new.merge.walks < blocks_left opened old.merge.walks) ⊎ (length made < length now)) × IsMoreLeft opened new later
AnswersProgress opened old new later made now sliced.Ready = (blocks_left opened new.merge.walks ≡ 0) × (later ≡ [])

-- A merge went on: no more blocks are left than before, one output was made or none, the tables that are read and those that are
-- made are on the device as it is then, and those that are made on each image that a crash may leave where they did before.
pub record GoesOn (spelling : Spelling) (filter_bytes : FilterBytes) (opened : List Opened) (tables : List Table) (old new : JobValue) (left : List (List Entry)) (made : List Table)
    (others : List Extent) (free taken : Taken) (before after : World) : Type 0 where
  pub later : List (List Entry)
  pub now : List Table
  pub one : OneOutput filter_bytes old free taken left later made now
  pub read : blocks_left opened new.merge.walks ≤ blocks_left opened old.merge.walks
  pub numbers_are : numbers new.merge.walks ≡ numbers old.merge.walks
  pub stands_are : stands new.merge.walks ≡ stands old.merge.walks
  pub settings : new.settings ≡ old.settings
  pub output : new.output ≡ old.output
  pub makes : OutputsLeft spelling opened after.seen.held new later now
  pub held : TablesAgree spelling opened tables after.seen.held
  pub lasting : Now (TablesAgree spelling old.made made) before → Now (TablesAgree spelling new.made now) after
  pub taken_are : AreTakenBy opened new.made others taken

-- A merge slice that is done: the merge went on, and it is said whether more is left.
pub record SliceOf (spelling : Spelling) (filter_bytes : FilterBytes) (opened : List Opened) (tables : List Table) (old new : JobValue) (left : List (List Entry)) (made : List Table)
    (others : List Extent) (free taken : Taken) (before after : World) (sliced : Sliced) : Type 0 where
  pub goes : GoesOn spelling filter_bytes opened tables old new left made others free taken before after
  pub said : AnswersProgress opened old new goes.later made goes.now sliced

-- Lack of memory; a read that failed, where a block is to read; a write or a sync that failed, where an output has its place; or the
-- first of the outputs has none.
abbrev pub IsMakeRefusal : FilterBytes → List Opened → JobValue → List (List Entry) → Taken → World → World → JobFault → Type 0
IsMakeRefusal filter_bytes opened m left free before after fault.Memory = Unit {0}
IsMakeRefusal filter_bytes opened m left free before after (fault.Device cause) =
    ((cause.op ≡ Read) × (0 < blocks_left opened m.merge.walks) × Rose before.seen.read_faults after.seen.read_faults)
    ⊎ ((cause.op ≢ Read) × ((later : List (List Entry)) × HasPlace filter_bytes m.settings free left later) × Rose before.seen.write_faults after.seen.write_faults)
IsMakeRefusal filter_bytes opened m left free before after (fault.Damaged damage) = ⊥
IsMakeRefusal filter_bytes opened m left free before after (fault.Full need gap) =
    (output : List Entry) × (later : List (List Entry)) × (left ≡ output ∷ later) × (need ≡ table_pages filter_bytes m.settings output)
    × (gap ≡ largest_gap free.pages free.extents) × (gap < need)

-- what a merge slice makes of a merge that makes these outputs
abbrev pub OutputOrNone : Spelling → FilterBytes → List Opened → List Table → JobValue → JobValue → List (List Entry) → List Table → List Extent → Taken → Taken → Result Sliced JobFault
    → World → World → Type 0
OutputOrNone spelling filter_bytes opened tables old new left made others free taken result before after =
    MatchResult result (SliceOf spelling filter_bytes opened tables old new left made others free taken before after) (IsMakeRefusal filter_bytes opened old left free before after)

-- the same, of each device on which the merge makes these outputs
abbrev pub MakesAnyOutputs : Spelling → FilterBytes → List Opened → JobValue → JobValue → Taken → Taken → Result Sliced JobFault → World → World → Type 0
MakesAnyOutputs spelling filter_bytes opened old new free taken result before after =
    (tables : List Table) (left : List (List Entry)) (made : List Table) (others : List Extent) → TablesAgree spelling opened tables before.seen.held
    → OutputsLeft spelling opened before.seen.held old left made → AreTakenBy opened old.made others free
    → OutputOrNone spelling filter_bytes opened tables old new left made others free taken result before after
