-- What a step makes of a merge.
use Rattle.std.specs.Prelude.{◌≡◌, ◌<◌, ◌≤◌, ℕ, Bool, true, List, [], ◌∷◌, length, map, Option, Some, None, IfSome, IsTrue}
use Rattle.std.specs.List.{AllByRecursion}
use Rattle.disk_trait.specs.Image.{Image}
use Rattle.entry_model.specs.Entries.{Entry, IsEntry}
use Rattle.entry_model.specs.Newest.{KeysRise}
use Rattle.map_model.specs.SortedMap.{Bytes}
use Rattle.merge_rows.specs.Choosing.{IsHeadFrom, IsLeastAt, IsNone}
use Rattle.merge_rows.specs.Merges.{Merge, TableWalk, blocks_in, left_above, merged_left, numbered, rows_left, walk_left, with_hand}
use Rattle.merge_rows.specs.Reads.{blocks_left, next_blocks, next_numbers, wanted_by}
use Rattle.merge_rows.specs.Rows.{KeyFloor, clears}
use Rattle.table_file.specs.Opened.{Opened}
use Rattle.table_file.specs.Walks.{BeginsWell, CursorWalk, most_block_pages, to_come}

abbrev pub number_of_walk : TableWalk → ℕ
number_of_walk w = w.number

abbrev pub numbers : List TableWalk → List ℕ
numbers walks = map number_of_walk walks

-- each number is that of a table
abbrev pub AreNumbersIn : List Opened → List ℕ → Type 0
AreNumbersIn tables all = AllByRecursion (λ number. number < length tables) all

-- a walk's number, and for how many pages of a block it has room: no step changes them
abbrev pub stand_of_walk : TableWalk → ℕ × ℕ
stand_of_walk w = (w.number, w.walk.room)

abbrev pub stands : List TableWalk → List (ℕ × ℕ)
stands walks = map stand_of_walk walks

-- a number is that of a table, and there is room for the largest block of that one
abbrev pub HasRoomFor : Option Opened → ℕ → Type 0
HasRoomFor None room = ⊥
HasRoomFor (Some t) room = most_block_pages t.index.rows ≤ room

abbrev pub AreWalksIn : List Opened → List (ℕ × ℕ) → Type 0
AreWalksIn tables all = AllByRecursion (λ stand. (stand.0 < length tables) × HasRoomFor (numbered tables stand.0) stand.1) all

-- an entry above the floor is at hand, or none is left
abbrev pub IsCaughtUp : KeyFloor → Option Entry → List Entry → Type 0
IsCaughtUp floor None left = left ≡ []
IsCaughtUp floor (Some e) left = clears floor e.key ≡ true

abbrev pub AreCaughtUp : KeyFloor → List Opened → Image → List TableWalk → Type 0
AreCaughtUp floor tables image walks = AllByRecursion (λ (w : TableWalk). IsCaughtUp floor w.walk.now (walk_left tables image w)) walks

-- no entry at hand is at or below the floor
abbrev pub IsHeadClear : KeyFloor → Option Entry → Type 0
IsHeadClear floor None = Unit {0}
IsHeadClear floor (Some e) = clears floor e.key ≡ true

abbrev pub AreHeadsClear : KeyFloor → List TableWalk → Type 0
AreHeadsClear floor walks = AllByRecursion (λ (w : TableWalk). IsHeadClear floor w.walk.now) walks

-- ---- what is left where tables are sound

-- Keys rise, those to come are above the floor, each block has an entry, and the one that is read next has one from the walk's
-- bound on.
pub record IsSoundWalk (floor : KeyFloor) (walk : CursorWalk) (blocks : List (List Entry)) : Type 0 where
  pub rises : KeysRise (with_hand walk.now (to_come walk blocks))
  pub clear : AllByRecursion (λ (e : Entry). clears floor e.key ≡ true) (to_come walk blocks)
  pub some : AllByRecursion (λ (block : List Entry). 1 ≤ length block) blocks
  pub begins : BeginsWell walk blocks

abbrev pub AreSoundWalks : KeyFloor → List Opened → Image → List TableWalk → Type 0
AreSoundWalks floor tables image walks = AllByRecursion (λ (w : TableWalk). IsSoundWalk floor w.walk (blocks_in (numbered tables w.number) image)) walks

pub record IsSoundMerge (m : Merge) (tables : List Opened) (image : Image) : Type 0 where
  pub memory : KeysRise m.memory
  pub walks : AreSoundWalks m.floor tables image m.walks

-- ---- a step

-- the first of the rows, or none where there are none
abbrev pub HandsOutRow : Option Entry → List Entry → List Entry → Type 0
HandsOutRow None old new = (old ≡ []) × (new ≡ [])
HandsOutRow (Some row) old new = old ≡ row ∷ new

-- no key is above the new floor that was not above the old one
abbrev pub FloorRises : KeyFloor → KeyFloor → Type 0
FloorRises old new = (key : Bytes) → clears new key ≡ true → clears old key ≡ true

abbrev pub passed_at : Bytes → KeyFloor
passed_at key = record { key = key; passed = true }

-- the key of a row is above the old floor, and the new one
abbrev pub RowPasses : Option Entry → KeyFloor → KeyFloor → Type 0
RowPasses None old new = FloorRises old new
RowPasses (Some row) old new = (clears old row.key ≡ true) × (new ≡ passed_at row.key)

-- the same tables, and what is left is as sound as it was
pub record SourcesStay (tells : Bool) (tables : List Opened) (image : Image) (old new : Merge) : Type 0 where
  pub numbers_are : numbers new.walks ≡ numbers old.walks
  pub stands_are : stands new.walks ≡ stands old.walks
  pub drops_are : new.drops ≡ old.drops
  pub sound : IsTrue tells → IsSoundMerge old tables image → IsSoundMerge new tables image

-- A row comes to hand, or none. On any device its key is above those of all rows before it.
pub record IsRowStep (tells : Bool) (tables : List Opened) (image : Image) (old new : Merge) : Type 0 where
  pub rows : IsTrue tells → IsSoundMerge old tables image → HandsOutRow new.now (rows_left old tables image) (rows_left new tables image)
  pub passes : RowPasses new.now old.floor new.floor

-- A fault: no row is lost, and none is at hand.
pub record IsFaultStep (tells : Bool) (tables : List Opened) (image : Image) (old new : Merge) : Type 0 where
  pub rows : IsTrue tells → IsSoundMerge old tables image → rows_left new tables image ≡ rows_left old tables image
  pub rises : FloorRises old.floor new.floor
  pub none : new.now ≡ None

-- ---- a step in parts

-- No row is at hand, and above the same floor the same is left.
pub record StaysAt (tells : Bool) (tables : List Opened) (image : Image) (old new : Merge) : Type 0 where
  pub sources : SourcesStay tells tables image old new
  pub floor_is : new.floor ≡ old.floor
  pub none : new.now ≡ None
  pub left : IsTrue tells → merged_left new tables image ≡ merged_left old tables image
  pub each : IsTrue tells → map (left_above old.floor tables image) new.walks ≡ map (left_above old.floor tables image) old.walks

-- Of the entries at hand the first with the least key is the row at hand, and its key was passed.
abbrev pub IsChosen : List (Option Entry) → Option Entry → KeyFloor → KeyFloor → Type 0
IsChosen heads None old new = AllByRecursion IsNone heads × (new ≡ old)
IsChosen heads (Some row) old new = ((place : ℕ) × IsLeastAt heads place row) × IsEntry row × (new ≡ passed_at row.key)

-- no entry at hand is before the row
abbrev pub IsLeastRow : Merge → Type 0
IsLeastRow m = IfSome m.now (λ row. AllByRecursion (λ (w : TableWalk). IsHeadFrom row.key w.walk.now) m.walks)

-- Each walk has caught up with the old floor, where the same is left of it, and no entry at hand is before the row.
pub record IsPaced (tables : List Opened) (image : Image) (old new : Merge) : Type 0 where
  pub same : map (left_above old.floor tables image) new.walks ≡ map (left_above old.floor tables image) old.walks
  pub caught_up : AreCaughtUp old.floor tables image new.walks
  pub least : IsLeastRow new

-- ---- walks that pass over what is in memory

-- Above the floor the same is left of each walk, and no block was read.
pub record IsPassed (tells : Bool) (floor : KeyFloor) (tables : List Opened) (image : Image) (old new : List TableWalk) : Type 0 where
  pub numbers_are : numbers new ≡ numbers old
  pub stands_are : stands new ≡ stands old
  pub same : IsTrue tells → map (left_above floor tables image) new ≡ map (left_above floor tables image) old
  pub sound : IsTrue tells → AreSoundWalks floor tables image old → AreSoundWalks floor tables image new
  pub next : next_blocks new ≡ next_blocks old
  pub blocks : next_numbers new ≡ next_numbers old
  pub left : blocks_left tables new ≡ blocks_left tables old
  pub wanted : IsTrue tells → AreSoundWalks floor tables image old → wanted_by floor tables new ≡ wanted_by floor tables old
