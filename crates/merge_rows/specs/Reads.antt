-- What a merge reads, and why a read is refused.
use Rattle.std.specs.Prelude.{◌≡◌, ◌<◌, ◌≤◌, ◌+◌, ◌-◌, ℕ, Bool, true, false, not, ◌&&◌, Contains, List, [], ◌∷◌, length, map, Option, Some, None, Result, Ok, Err}
use Rattle.std.specs.List.{AllByRecursion, sum_by}
use Rattle.disk_trait.specs.Image.{Image}
use Rattle.disk_trait.specs.World.{ReadMoves, World}
use Rattle.entry_model.specs.Entries.{Entry}
use Rattle.merge_rows.specs.Merges.{Merge, TableWalk, numbered, row_count}
use Rattle.merge_rows.specs.Rows.{KeyFloor, clears}
use Rattle.table_file.specs.Opened.{Opened}
use Rattle.table_file.specs.Search.{IsSoundBlock}
use Rattle.table_file.specs.Walks.{is_due}

-- no entry above the floor is at hand
abbrev pub is_used_up : KeyFloor → Option Entry → Bool
is_used_up floor None = true
is_used_up floor (Some e) = not (clears floor e.key)

-- the next row needs a block of the table: no entry above the floor is in memory
abbrev pub wants : KeyFloor → List Opened → TableWalk → Bool
wants floor tables w = is_used_up floor w.walk.now && is_due w.walk (row_count (numbered tables w.number))

abbrev pub ones : Bool → ℕ
ones true = 1
ones false = 0

-- the blocks that the next row needs, one of each such table
abbrev pub wanted_block_of : KeyFloor → List Opened → TableWalk → ℕ
wanted_block_of floor tables w = ones (wants floor tables w)

abbrev pub wanted_by : KeyFloor → List Opened → List TableWalk → ℕ
wanted_by floor tables walks = sum_by (wanted_block_of floor tables) walks

abbrev pub wanted : Merge → List Opened → ℕ
wanted m tables = wanted_by m.floor tables m.walks

-- the numbers of the blocks that are read next: as many blocks were read as they rose
abbrev pub next_block_of : TableWalk → ℕ
next_block_of w = w.walk.block

abbrev pub next_blocks : List TableWalk → ℕ
next_blocks walks = sum_by next_block_of walks

-- these numbers, one of each walk
abbrev pub next_numbers : List TableWalk → List ℕ
next_numbers walks = map next_block_of walks

-- the blocks that were not read yet
abbrev pub blocks_left_in : List Opened → TableWalk → ℕ
blocks_left_in tables w = row_count (numbered tables w.number) - w.walk.block

abbrev pub blocks_left : List Opened → List TableWalk → ℕ
blocks_left tables walks = sum_by (blocks_left_in tables) walks

-- the blocks of a table from one number on and before another are sound
abbrev pub AreSoundFrom : Option Opened → Image → ℕ → ℕ → Type 0
AreSoundFrom None image from to = Unit {0}
AreSoundFrom (Some t) image from to = (n : ℕ) → from ≤ n → n < to → IsSoundBlock t n image

-- a walk went on, over sound blocks alone
pub record PassesSound (tables : List Opened) (image : Image) (old new : TableWalk) : Type 0 where
  pub number : new.number ≡ old.number
  pub onward : old.walk.block ≤ new.walk.block
  pub sound : AreSoundFrom (numbered tables old.number) image old.walk.block new.walk.block

-- so each of some walks
abbrev pub PassSound : List Opened → Image → List TableWalk → List TableWalk → Type 0
PassSound tables image [] [] = Unit {0}
PassSound tables image [] (w ∷ new) = ⊥
PassSound tables image (o ∷ old) [] = ⊥
PassSound tables image (o ∷ old) (w ∷ new) = PassesSound tables image o w × PassSound tables image old new

-- where no entry is at hand, each block of the table was read
abbrev pub HasReadAll : List Opened → TableWalk → Type 0
HasReadAll tables w = w.walk.now ≡ None → row_count (numbered tables w.number) ≤ w.walk.block

abbrev pub HaveReadAll : List Opened → List TableWalk → Type 0
HaveReadAll tables walks = AllByRecursion (HasReadAll tables) walks

-- a walk is at its end: no entry is at hand, and each block of the table was read
pub record IsAtEnd (tables : List Opened) (w : TableWalk) : Type 0 where
  pub none : w.walk.now ≡ None
  pub whole : row_count (numbered tables w.number) ≤ w.walk.block

abbrev pub AreAtEnd : List Opened → List TableWalk → Type 0
AreAtEnd tables walks = AllByRecursion (IsAtEnd tables) walks

-- reads and nothing else
abbrev pub OnlyReads : World → World → Type 0
OnlyReads old new = (most : ℕ) × ReadMoves most old new

-- so with some block of the table of a number
abbrev pub BlockOf : List Opened → ℕ → (Opened → ℕ → Type 0) → Type 0
BlockOf tables number P = (t : Opened) × (n : ℕ) × (numbered tables number ≡ Some t) × (n < length t.index.rows) × P t n

-- so with some block of the table of one of these numbers
abbrev pub SomeBlock : List Opened → List ℕ → (Opened → ℕ → Type 0) → Type 0
SomeBlock tables which P = (number : ℕ) × Contains which number × BlockOf tables number P

-- a block that was read is needed no more; one that could not be read was wanted
abbrev pub IsFewer : {E : Type 0} → Result Bool E → ℕ → ℕ → Type 0
IsFewer (Ok true) old new = new + 1 ≡ old
IsFewer (Ok false) old new = (new ≡ 0) × (old ≡ 0)
IsFewer (Err why) old new = 1 ≤ old

-- fewer blocks are left where one was read
abbrev pub IsRead : {E : Type 0} → Result Bool E → ℕ → ℕ → Type 0
IsRead (Ok true) old new = new < old
IsRead (Ok false) old new = new ≡ old
IsRead (Err why) old new = Unit {0}
