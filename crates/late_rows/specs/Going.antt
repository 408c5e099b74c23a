-- A merge on its way to the next row.
use Rattle.std.specs.Prelude.{◌≡◌, ◌<◌, ◌≤◌, ◌+◌, ℕ, Bool, List, length, map, Option, None, Result, IsTrue, IfErr, OnOk}
use Rattle.block_model.specs.Places.{byte_of_page}
use Rattle.disk_trait.specs.Image.{Image}
use Rattle.disk_trait.specs.World.{World}
use Rattle.entry_model.specs.Newest.{KeysRise}
use Rattle.merge_rows.specs.Merges.{TableWalk, left_above, merged_left, walk_left}
use Rattle.merge_rows.specs.Reads.{OnlyReads, PassSound, SomeBlock, blocks_left, next_blocks}
use Rattle.merge_rows.specs.Rows.{KeyFloor, above_floor}
use Rattle.merge_rows.specs.Steps.{AreHeadsClear, AreSoundWalks, IsCaughtUp, IsSoundMerge, numbers, stands}
use Rattle.table_file.specs.Faults.{HasReadCause, IsNotMemory}
use Rattle.table_file.specs.Opened.{Opened}
use Rattle.table_file.specs.Search.{IsGetFault, page_at}
use Rattle.table_file.specs.declared.fault.TableFault.{TableFault}
use Rattle.late_rows.specs.Late.{IsSoundLate, LateMerge, waking_at, walk_in, wanted_awake}
use Rattle.late_rows.specs.Opening.{SleepOn, WakeLate}

-- Above the floor the same is left of each source, however it ends, and those who sleep stand where they stood.
pub record GoesOn (tells : Bool) (tables : List Opened) (old new : LateMerge) (before after : World) : Type 0 where
  pub floor : new.merge.floor ≡ old.merge.floor
  pub drops : new.merge.drops ≡ old.merge.drops
  pub numbers_are : numbers new.merge.walks ≡ numbers old.merge.walks
  pub stands_are : stands new.merge.walks ≡ stands old.merge.walks
  pub memory : above_floor old.merge.floor new.merge.memory ≡ above_floor old.merge.floor old.merge.memory
  pub rises : KeysRise old.merge.memory → KeysRise new.merge.memory
  pub each : IsTrue tells → map (left_above old.merge.floor tables before.seen.held) new.merge.walks ≡ map (left_above old.merge.floor tables before.seen.held) old.merge.walks
  pub walks : IsTrue tells → AreSoundWalks old.merge.floor tables before.seen.held old.merge.walks → AreSoundWalks old.merge.floor tables before.seen.held new.merge.walks
  pub sleep_on : SleepOn old new
  pub wake_late : IsTrue tells → IsSoundLate old tables before.seen.held → WakeLate (merged_left old.merge tables before.seen.held) old new
  pub read_sound : IsTrue tells → PassSound tables before.seen.held old.merge.walks new.merge.walks
  pub moves : OnlyReads before after

-- As many blocks were read as are wanted no more of those who are awake, and are left no more.
pub record ReadsOn (tells : Bool) (tables : List Opened) (old new : LateMerge) (before after : World) : Type 0 where
  pub left : blocks_left tables new.merge.walks ≤ blocks_left tables old.merge.walks
  pub counted : IsTrue tells → after.seen.reads + next_blocks old.merge.walks ≡ before.seen.reads + next_blocks new.merge.walks
  pub spent : IsTrue tells → IsSoundMerge old.merge tables before.seen.held
      → after.seen.reads + blocks_left tables new.merge.walks ≤ before.seen.reads + blocks_left tables old.merge.walks
  pub bounded : IsTrue tells → IsSoundMerge old.merge tables before.seen.held
      → after.seen.reads + wanted_awake old.merge.floor tables new.asleep new.merge.walks ≤ before.seen.reads + wanted_awake old.merge.floor tables new.asleep old.merge.walks

-- each walk that is awake has an entry above the floor at hand, or none is left of it
abbrev pub AwakeCaughtUp : KeyFloor → List Opened → Image → List (Option (List ℕ)) → List TableWalk → Type 0
AwakeCaughtUp floor tables image asleep walks =
    (at : ℕ) → at < length walks → waking_at asleep at ≡ None → IsCaughtUp floor (walk_in walks at).walk.now (walk_left tables image (walk_in walks at))

-- A read was refused, with its cause: none was asked for that the next row does not want of those who are awake.
pub record FailsOn (tells : Bool) (tables : List Opened) (old new : LateMerge) (before after : World) (why : TableFault) : Type 0 where
  pub none : new.merge.now ≡ None
  pub only_if_read : 1 ≤ length old.merge.walks
  pub never_memory : IsNotMemory why
  pub cause : SomeBlock tables (numbers old.merge.walks) (λ t n. HasReadCause (byte_of_page (page_at t n)) before after why)
  pub fault : IsTrue tells → SomeBlock tables (numbers old.merge.walks) (λ t n. IsGetFault t n before.seen.held why)
  pub only_if_wanted : IsTrue tells → IsSoundMerge old.merge tables before.seen.held → 1 ≤ wanted_awake old.merge.floor tables new.asleep old.merge.walks
  pub bounded : IsTrue tells → IsSoundMerge old.merge tables before.seen.held
      → after.seen.reads ≤ before.seen.reads + wanted_awake old.merge.floor tables new.asleep old.merge.walks
  pub tried : IsTrue tells → IsSoundMerge old.merge tables before.seen.held → after.seen.reads ≤ before.seen.reads + blocks_left tables old.merge.walks

-- Those who are awake have caught up with the floor, or a read was refused.
pub record AwakeCatchUp (tells : Bool) (tables : List Opened) (old new : LateMerge) (result : Result Unit TableFault) (before after : World) : Type 0 where
  pub asleep : new.asleep ≡ old.asleep
  pub goes : GoesOn tells tables old new before after
  pub reads : OnOk result (ReadsOn tells tables old new before after)
  pub caught_up : IsTrue tells → OnOk result (AwakeCaughtUp old.merge.floor tables before.seen.held new.asleep new.merge.walks)
  pub heads_pass : OnOk result (AreHeadsClear old.merge.floor new.merge.walks)
  pub fails : IfErr result (FailsOn tells tables old new before after)

-- A step to the next row: above the floor the same is left of each walk, those that are awake have caught up with it, and each entry
-- at hand is above it.
pub record IsLatePaced (tables : List Opened) (image : Image) (old new : LateMerge) : Type 0 where
  pub same : map (left_above old.merge.floor tables image) new.merge.walks ≡ map (left_above old.merge.floor tables image) old.merge.walks
  pub caught_up : AwakeCaughtUp old.merge.floor tables image new.asleep new.merge.walks
  pub clear : AreHeadsClear old.merge.floor new.merge.walks
