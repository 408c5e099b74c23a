-- What filling does, whole: a block is read for the first of some walks that needs one. And what asking for it does, with no read.
use Rattle.std.specs.Prelude.{◌≡◌, ◌≤◌, ◌+◌, Bool, true, false, List, length, map, Result, IsTrue, IfOk, IfErr, OnOk, OnErr}
use Rattle.block_model.specs.Places.{byte_of_page}
use Rattle.disk_trait.specs.Image.{Image}
use Rattle.disk_trait.specs.World.{ReadMoves, World}
use Rattle.merge_rows.specs.Merges.{TableWalk, left_above}
use Rattle.merge_rows.specs.Reads.{HaveReadAll, IsFewer, IsRead, PassSound, SomeBlock, blocks_left, next_blocks, next_numbers, wanted_by}
use Rattle.merge_rows.specs.Rows.{KeyFloor}
use Rattle.merge_rows.specs.Steps.{AreCaughtUp, AreHeadsClear, AreSoundWalks, numbers, stands}
use Rattle.table_file.specs.Faults.{HasReadCause, IsNotMemory}
use Rattle.table_file.specs.Opened.{Opened}
use Rattle.table_file.specs.Search.{IsGetFault, page_at}
use Rattle.table_file.specs.declared.fault.TableFault.{TableFault}

-- A block was read for one of the walks, or none of them wanted one, or the read was refused with its cause.
pub record FillsWalks (tells : Bool) (floor : KeyFloor) (tables : List Opened) (old new : List TableWalk) (result : Result Bool TableFault) (before after : World) : Type 0 where
  pub numbers_are : numbers new ≡ numbers old
  pub stands_are : stands new ≡ stands old
  -- above the floor no entry is lost, however it ends
  pub same : IsTrue tells → map (left_above floor tables before.seen.held) new ≡ map (left_above floor tables before.seen.held) old
  -- where none was read, each walk has an entry above the floor at hand, or none is left of it
  pub caught_up : IsTrue tells → IfOk result (λ read. read ≡ false → AreCaughtUp floor tables before.seen.held new)
  -- then no entry at hand is at or below the floor, on any device
  pub heads_pass : IfOk result (λ read. read ≡ false → AreHeadsClear floor new)
  pub sound : IsTrue tells → AreSoundWalks floor tables before.seen.held old → AreSoundWalks floor tables before.seen.held new
  -- what was read and passed is sound, whatever the blocks are; and where none was read, none is due, and no block was left out
  pub read_sound : IsTrue tells → PassSound tables before.seen.held old new
  pub done : IfOk result (λ read. read ≡ false → wanted_by floor tables new ≡ 0)
  pub read_all : IfOk result (λ read. read ≡ false → HaveReadAll tables new)
  -- where there is no walk, none is refused
  pub only_if_read : OnErr result (1 ≤ length old)
  pub never_memory : IfErr result IsNotMemory
  pub cause : IfErr result (λ why. SomeBlock tables (numbers old) (λ t n. HasReadCause (byte_of_page (page_at t n)) before after why))
  -- what was refused is a fault of a block, and the image shows it
  pub fault : IsTrue tells → IfErr result (λ why. SomeBlock tables (numbers old) (λ t n. IsGetFault t n before.seen.held why))
  pub moves : ReadMoves 2 before after
  pub idle : IfOk result (λ read. read ≡ false → ReadMoves 0 before after)
  -- as many reads as the numbers of the blocks that are read next rose
  pub counted : IsTrue tells → OnOk result (after.seen.reads + next_blocks old ≡ before.seen.reads + next_blocks new)
  pub left : IsRead result (blocks_left tables old) (blocks_left tables new)
  -- of sound tables at most one block, which the next row wanted
  pub once : IsTrue tells → AreSoundWalks floor tables before.seen.held old → ReadMoves 1 before after × IsFewer result (wanted_by floor tables old) (wanted_by floor tables new)

-- The walks passed over what is in memory and not above the floor, and were asked whether one of them needs a block: how many want
-- one is as before, and where none does each has an entry above the floor at hand, or none is left of it.
pub record AsksWalks (tells : Bool) (floor : KeyFloor) (tables : List Opened) (image : Image) (old new : List TableWalk) (wants : Bool) : Type 0 where
  pub numbers_are : numbers new ≡ numbers old
  pub stands_are : stands new ≡ stands old
  pub same : IsTrue tells → map (left_above floor tables image) new ≡ map (left_above floor tables image) old
  pub sound : IsTrue tells → AreSoundWalks floor tables image old → AreSoundWalks floor tables image new
  pub next : IsTrue tells → next_blocks new ≡ next_blocks old
  pub blocks : IsTrue tells → next_numbers new ≡ next_numbers old
  pub left : blocks_left tables new ≡ blocks_left tables old
  pub wanted : IsTrue tells → AreSoundWalks floor tables image old → wanted_by floor tables new ≡ wanted_by floor tables old
  pub some : wants ≡ true → 1 ≤ wanted_by floor tables new
  pub none : wants ≡ false → wanted_by floor tables new ≡ 0
  pub read_all : wants ≡ false → HaveReadAll tables new
  pub caught_up : IsTrue tells → wants ≡ false → AreCaughtUp floor tables image new
  pub heads_pass : wants ≡ false → AreHeadsClear floor new
