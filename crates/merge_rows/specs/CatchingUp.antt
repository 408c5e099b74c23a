-- What one walk does that catches up by itself, and a step to the least key at hand where it is below a bound.
use Rattle.std.specs.Prelude.{◌≡◌, ◌≤◌, ◌+◌, ℕ, Bool, true, false, List, map, slice_get, slice_set, Option, Some, None, Result, IsTrue, IfErr, OnOk, OnErr}
use Rattle.std.specs.List.{AllByRecursion}
use Rattle.block_model.specs.Places.{byte_of_page}
use Rattle.disk_trait.specs.World.{ReadMoves, World}
use Rattle.entry_model.specs.Entries.{Entry}
use Rattle.entry_model.specs.Newest.{KeysRise}
use Rattle.key_base.specs.ByteOrder.{IsBefore}
use Rattle.map_model.specs.SortedMap.{Bytes}
use Rattle.merge_rows.specs.Choosing.{IsHeadFrom, heads_of}
use Rattle.merge_rows.specs.Merges.{Merge, TableWalk, blocks_in, left_above, numbered, walk_left}
use Rattle.merge_rows.specs.Reads.{BlockOf, HasReadAll, OnlyReads, PassesSound, blocks_left_in, wanted_block_of}
use Rattle.merge_rows.specs.Rows.{KeyFloor, above_floor}
use Rattle.merge_rows.specs.Steps.{IsCaughtUp, IsChosen, IsHeadClear, IsSoundWalk}
use Rattle.table_file.specs.Faults.{HasReadCause, IsNotMemory}
use Rattle.table_file.specs.Opened.{Opened}
use Rattle.table_file.specs.Search.{IsGetFault, page_at}
use Rattle.table_file.specs.Walks.{first_of}
use Rattle.table_file.specs.declared.fault.TableFault.{TableFault}

-- Above the floor the same is left of the walk, however it ends. At Ok an entry above the floor is at hand, or none is left; of a
-- sound table at most one block was read, and only where it was wanted.
pub record CatchesUp (tells : Bool) (floor : KeyFloor) (tables : List Opened) (old new : TableWalk) (result : Result Unit TableFault) (before after : World) : Type 0 where
  pub number : new.number ≡ old.number
  pub room : new.walk.room ≡ old.walk.room
  pub same : IsTrue tells → left_above floor tables before.seen.held new ≡ left_above floor tables before.seen.held old
  pub caught_up : IsTrue tells → OnOk result (IsCaughtUp floor new.walk.now (walk_left tables before.seen.held new))
  pub heads_pass : OnOk result (IsHeadClear floor new.walk.now)
  pub sound : IsTrue tells → IsSoundWalk floor old.walk (blocks_in (numbered tables old.number) before.seen.held)
      → IsSoundWalk floor new.walk (blocks_in (numbered tables old.number) before.seen.held)
  pub read_sound : IsTrue tells → PassesSound tables before.seen.held old new
  pub done : OnOk result (wanted_block_of floor tables new ≡ 0)
  pub read_all : OnOk result (HasReadAll tables new)
  pub never_memory : IfErr result IsNotMemory
  pub cause : IfErr result (λ why. BlockOf tables old.number (λ t n. HasReadCause (byte_of_page (page_at t n)) before after why))
  pub fault : IsTrue tells → IfErr result (λ why. BlockOf tables old.number (λ t n. IsGetFault t n before.seen.held why))
  pub moves : OnlyReads before after
  pub left : OnOk result (blocks_left_in tables new ≤ blocks_left_in tables old)
  pub counted : IsTrue tells → OnOk result (after.seen.reads + old.walk.block ≡ before.seen.reads + new.walk.block)
  pub bounded : IsTrue tells → IsSoundWalk floor old.walk (blocks_in (numbered tables old.number) before.seen.held)
      → OnOk result (after.seen.reads + wanted_block_of floor tables new ≤ before.seen.reads + wanted_block_of floor tables old)
  pub tried : IsTrue tells → IsSoundWalk floor old.walk (blocks_in (numbered tables old.number) before.seen.held)
      → OnErr result ((after.seen.reads ≤ before.seen.reads + wanted_block_of floor tables old) × (1 ≤ wanted_block_of floor tables old))

-- one of some walks did so
pub record CatchesUpOne (tells : Bool) (floor : KeyFloor) (tables : List Opened) (at : ℕ) (old new : List TableWalk) (result : Result Unit TableFault) (before after : World) : Type 0 where
  pub from : TableWalk
  pub to : TableWalk
  pub there : slice_get old at ≡ Some from
  pub set : new ≡ slice_set old at to
  pub one : CatchesUp tells floor tables from to result before after

-- one of a merge's did, and no row is at hand
pub record CatchesUpAt (tells : Bool) (tables : List Opened) (at : ℕ) (old new : Merge) (result : Result Unit TableFault) (before after : World) : Type 0 where
  pub floor : new.floor ≡ old.floor
  pub drops : new.drops ≡ old.drops
  pub none : new.now ≡ None
  pub memory : new.memory ≡ old.memory
  pub walks : CatchesUpOne tells old.floor tables at old.walks new.walks result before after

-- the memory went on to its first entry above the floor
pub record MemoryPasses (floor : KeyFloor) (old new : List Entry) : Type 0 where
  pub same : above_floor floor new ≡ above_floor floor old
  pub rises : KeysRise old → KeysRise new
  pub caught_up : IsCaughtUp floor (first_of new) new

-- the least of the entries at hand is the row, if its key is below the bound; if not, none of them is below it, and no row is at hand
abbrev pub IsChosenBefore : Bytes → List (Option Entry) → Option Entry → KeyFloor → KeyFloor → Bool → Type 0
IsChosenBefore bound heads None old new before = (before ≡ false) × (new ≡ old) × AllByRecursion (IsHeadFrom bound) heads
IsChosenBefore bound heads (Some row) old new before = (before ≡ true) × IsBefore row.key bound × IsChosen heads (Some row) old new

pub record AdvancesBefore (bound : Bytes) (old new : Merge) (before : Bool) : Type 0 where
  pub drops : new.drops ≡ old.drops
  pub walks : new.walks ≡ old.walks
  pub memory : MemoryPasses old.floor old.memory new.memory
  pub chosen : IsChosenBefore bound (heads_of new.memory old.walks) new.now old.floor new.floor before
