-- What a merge slice does, whole.
use Rattle.std.specs.Prelude.{◌≡◌, ◌<◌, ◌≤◌, ◌+◌, ◌*◌, ℕ, Bool, List, Result, IsTrue, IfOk, IfErr, OnOk}
use Rattle.key_base.specs.Limits.{max_level}
use Rattle.disk_trait.specs.World.{World}
use Rattle.extent_map.specs.Taken.{Taken}
use Rattle.filter_api.specs.Spellings.{Spelling}
use Rattle.filter_model.specs.Leaves.{Leaf}
use Rattle.level_merge.specs.Making.{MakesAnyOutputs}
use Rattle.level_merge.specs.JobValue.{AreAllWritten, JobValue, work_left}
use Rattle.level_merge.specs.SliceSteps.{FailsBeforeWrite, HasNoRoom, IsSliceFault, MayMakeAsMany, ReadyAtEnd, SaysWhatIsLeft, SliceMoves}
use Rattle.level_merge.specs.declared.fault.JobFault.{JobFault}
use Rattle.level_merge.specs.declared.fault.Sliced.{Sliced}
use Rattle.level_merge.specs.declared.fault.Sliced.TheVariants.{Working}
use Rattle.merge_rows.specs.Reads.{PassSound}
use Rattle.merge_rows.specs.Steps.{IsSoundMerge, numbers, stands}
use Rattle.table_file.specs.Opened.{Opened}
use Rattle.table_model.specs.Tables.{filter_bytes_of}

-- A merge went on by at most a given number of blocks, or was refused with its cause.
pub record SliceContract (spelling : Spelling) (built_cutoff : ℕ → List Leaf → ℕ) (tells : Bool) (blocks : ℕ) (opened : List Opened) (old new : JobValue) (free taken : Taken)
    (result : Result Sliced JobFault) (before after : World) : Type 0 where
  -- what it still makes of its tables goes on, on a device that tells the truth
  pub makes : IsTrue tells → MakesAnyOutputs spelling (filter_bytes_of spelling built_cutoff) opened old new free taken result before after
  pub bounded : IsTrue tells → IsSoundMerge old.merge opened before.seen.held → after.seen.reads ≤ before.seen.reads + blocks
  -- on any device at most twice as many
  pub twice : after.seen.reads ≤ before.seen.reads + 2 * blocks
  -- where something is left, it is less than before
  pub ends : IfOk result (λ sliced. sliced ≡ Working → work_left opened new < work_left opened old)
  -- and where it is said that something is left, something is
  pub more : IfOk result (SaysWhatIsLeft opened new)
  -- each block that was passed is sound, whatever the others are; and where nothing is left, no block was left out
  pub passes : IsTrue tells → PassSound opened before.seen.held old.merge.walks new.merge.walks
  pub done : IfOk result (ReadyAtEnd opened new)
  pub level : (1 ≤ new.output) × (new.output ≤ max_level)
  pub same : (new.output ≡ old.output) × (new.settings ≡ old.settings)
  pub numbers_are : numbers new.merge.walks ≡ numbers old.merge.walks
  pub stands_are : stands new.merge.walks ≡ stands old.merge.walks
  pub few : IfOk result (MayMakeAsMany old new)
  pub rows : AreAllWritten old → OnOk result (AreAllWritten new)
  pub moves : SliceMoves spelling built_cutoff old new free taken before after
  pub fault : IfErr result (IsSliceFault tells opened (numbers old.merge.walks) before after)
  pub unwritten : IfErr result (FailsBeforeWrite before after)
  pub no_room : IfErr result (HasNoRoom (filter_bytes_of spelling built_cutoff) old.settings free.pages free.extents)
