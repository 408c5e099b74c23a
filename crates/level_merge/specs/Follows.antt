-- A merge that runs in memory is the job of a state, and what a merge slice makes of both.
use Rattle.std.specs.Prelude.{◌≡◌, ◌≢◌, ◌⊎◌, ◌<◌, List, map, Some, Err, Result, MatchResult}
use Rattle.std.specs.List.Sorted.{IsPermutation}
use Rattle.disk_trait.specs.Image.{Image}
use Rattle.disk_trait.specs.World.{Now, Rose, World}
use Rattle.disk_trait.specs.declared.fault.Op.TheVariants.{Read}
use Rattle.entry_model.specs.Entries.{Entry}
use Rattle.extent_map.specs.Taken.{Taken}
use Rattle.filter_api.specs.Spellings.{Spelling}
use Rattle.store_search.specs.TablesAgree.{TablesAgree}
use Rattle.level_merge.specs.Making.{OutputsLeft}
use Rattle.level_merge.specs.JobValue.{JobValue}
use Rattle.level_merge.specs.Plans.{numbered}
use Rattle.level_merge.specs.declared.fault.JobFault.{JobFault}
use Rattle.level_merge.specs.declared.fault.JobFault.TheVariants as fault
use Rattle.level_merge.specs.declared.fault.Sliced.{Sliced}
use Rattle.level_merge.specs.declared.fault.Sliced.TheVariants as sliced
use Rattle.merge_rows.specs.Reads.{blocks_left}
use Rattle.merge_rows.specs.Steps.{numbers}
use Rattle.range_model.specs.Sources.{alone}
use Rattle.state_model.specs.State.{Job, State}
use Rattle.state_model.specs.Taken.{taken}
use Rattle.state_model.specs.Tends.{IsDone, MayWrite, Progresses, next_placed, outstanding, with_job}
use Rattle.table_file.specs.Opened.{Opened}
use Rattle.table_model.specs.Tables.{FilterBytes, Table}

-- The merge reads the job's inputs, has as many blocks to read, still makes the outputs that the job has not written, entries without
-- ranges, and has made those that it has, which are on the device.
pub record Follows (spelling : Spelling) (s : State) (opened : List Opened) (image : Image) (m : JobValue) (job : Job) : Type 0 where
  pub settings : m.settings ≡ s.settings
  pub inputs : map (numbered s.tables) (numbers m.merge.walks) ≡ map (λ (t : Table). Some t) job.inputs
  pub output : m.output ≡ job.output
  pub to_read : blocks_left opened m.merge.walks ≡ job.to_read
  pub left : List (List Entry)
  pub left_are : outstanding s.tables job ≡ map alone left
  pub makes : OutputsLeft spelling opened image m left job.written

-- the extents that are taken with a job are these, in any order
pub record AreTaken (s : State) (job : Job) (extents : Taken) : Type 0 where
  pub pages : extents.pages ≡ s.pages
  pub taken_are : IsPermutation extents.extents (taken (with_job s job))

-- something was done and more is left, or nothing is left
abbrev pub IsSliced : State → Job → Job → Sliced → Type 0
IsSliced s job later sliced.Working = (later ≢ job) × (IsDone s.tables later → ⊥)
IsSliced s job later sliced.Ready = IsDone s.tables later

-- Lack of memory; a read that failed, where a block is to read; a write or a sync that failed, where an output may be written; or an
-- output that has no room, once the job went on to it.
abbrev pub IsJobRefusal : FilterBytes → State → Job → World → World → JobFault → Type 0
IsJobRefusal filter_bytes s job old new fault.Memory = Unit {0}
IsJobRefusal filter_bytes s job old new (fault.Device cause) =
    ((cause.op ≡ Read) × (0 < job.to_read) × Rose old.seen.read_faults new.seen.read_faults)
    ⊎ ((cause.op ≢ Read) × MayWrite filter_bytes s job × Rose old.seen.write_faults new.seen.write_faults)
IsJobRefusal filter_bytes s job old new (fault.Damaged damage) = ⊥
IsJobRefusal filter_bytes s job old new (fault.Full need gap) =
    (later : Job) × Progresses filter_bytes s job later × (next_placed filter_bytes s later 1 ≡ Err (record { need = need; gap = gap }))

-- The job goes on and is followed; the tables that are read and those that are made are on the device as it is then, and those
-- that are made on each image that a crash may leave where they did before.
pub record JobProgress (spelling : Spelling) (filter_bytes : FilterBytes) (s : State) (job : Job) (opened : List Opened) (old new : JobValue) (extents : Taken)
    (before after : World) (sliced : Sliced) : Type 0 where
  pub later : Job
  pub progresses : Progresses filter_bytes s job later
  pub follows : Follows spelling s opened after.seen.held new later
  pub held : TablesAgree spelling opened s.tables after.seen.held
  pub lasting : Now (TablesAgree spelling old.made job.written) before → Now (TablesAgree spelling new.made later.written) after
  pub taken_are : AreTaken s later extents
  pub said : IsSliced s job later sliced

-- What a merge slice makes of a merge that follows a job of a state: the job goes on and is followed, or the slice is refused with
-- its cause.
abbrev pub ProgressOrRefusal : Spelling → FilterBytes → State → Job → List Opened → JobValue → JobValue → Taken → Result Sliced JobFault → World → World → Type 0
ProgressOrRefusal spelling filter_bytes s job opened old new extents result before after =
    MatchResult result (JobProgress spelling filter_bytes s job opened old new extents before after) (IsJobRefusal filter_bytes s job before after)

-- the same, of each job of a state that the merge follows
abbrev pub FollowsAnyJob : Spelling → FilterBytes → List Opened → JobValue → JobValue → Taken → Taken → Result Sliced JobFault → World → World → Type 0
FollowsAnyJob spelling filter_bytes opened old new free extents result before after =
    (s : State) (job : Job) → TablesAgree spelling opened s.tables before.seen.held → Follows spelling s opened before.seen.held old job → AreTaken s job free
    → ProgressOrRefusal spelling filter_bytes s job opened old new extents result before after
