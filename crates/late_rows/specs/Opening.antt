-- A step of a merge that opens tables late: the same rows, and which walks it wakes.
use Rattle.std.specs.Prelude.{◌≡◌, ℕ, Bool, List, Option, Some, None, IsTrue}
use Rattle.disk_trait.specs.Image.{Image}
use Rattle.entry_model.specs.Entries.{Entry}
use Rattle.key_base.specs.ByteOrder.{IsBefore}
use Rattle.map_model.specs.SortedMap.{Bytes}
use Rattle.merge_rows.specs.Choosing.{IsHeadFrom}
use Rattle.merge_rows.specs.Steps.{FloorRises, HandsOutRow, RowPasses, numbers, stands}
use Rattle.table_file.specs.Opened.{Opened}
use Rattle.table_file.specs.Walks.{first_of}
use Rattle.late_rows.specs.Late.{IsSoundLate, LateMerge, late_rows, waking_at, walk_in}

-- Who sleeps slept before, by the same key, and its walk stands where it stood: no block of its table was read.
abbrev pub SleepOn : LateMerge → LateMerge → Type 0
SleepOn old new = (at : ℕ) (key : Bytes) → waking_at new.asleep at ≡ Some key
    → (waking_at old.asleep at ≡ Some key) × (walk_in new.merge.walks at ≡ walk_in old.merge.walks at)

-- The next of some rows is not below the waking key of any that slept and is awake.
abbrev pub WakeLate : List Entry → LateMerge → LateMerge → Type 0
WakeLate rows old new = (at : ℕ) (key : Bytes) → waking_at old.asleep at ≡ Some key → waking_at new.asleep at ≡ None → IsHeadFrom key (first_of rows)

-- who sleeps has a waking key above this one
abbrev pub SleepAbove : Bytes → List (Option Bytes) → Type 0
SleepAbove key asleep = (at : ℕ) (other : Bytes) → waking_at asleep at ≡ Some other → IsBefore key other

-- the same tables, each opened late, and what is left is as sound as it was
pub record OpensLate (tells : Bool) (tables : List Opened) (image : Image) (old new : LateMerge) : Type 0 where
  pub numbers_are : numbers new.merge.walks ≡ numbers old.merge.walks
  pub stands_are : stands new.merge.walks ≡ stands old.merge.walks
  pub drops_are : new.merge.drops ≡ old.merge.drops
  pub sleep_on : SleepOn old new
  pub wake_late : IsTrue tells → IsSoundLate old tables image → WakeLate (late_rows old tables image) old new
  pub sound : IsTrue tells → IsSoundLate old tables image → IsSoundLate new tables image

-- A row comes to hand, the first of those of all tables, or none. On any device its key is above those of all rows before it.
pub record IsLateStep (tells : Bool) (tables : List Opened) (image : Image) (old new : LateMerge) : Type 0 where
  pub rows : IsTrue tells → IsSoundLate old tables image → HandsOutRow new.merge.now (late_rows old tables image) (late_rows new tables image)
  pub passes : RowPasses new.merge.now old.merge.floor new.merge.floor

-- A fault: no row is lost, and none is at hand.
pub record IsLateFault (tells : Bool) (tables : List Opened) (image : Image) (old new : LateMerge) : Type 0 where
  pub rows : IsTrue tells → IsSoundLate old tables image → late_rows new tables image ≡ late_rows old tables image
  pub rises : FloorRises old.merge.floor new.merge.floor
  pub none : new.merge.now ≡ None
