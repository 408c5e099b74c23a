-- A merge of which some walks sleep, each until no entry at hand is below its waking key.
use Rattle.std.specs.Prelude.{◌≡◌, ◌<◌, ℕ, false, List, [], ◌∷◌, get_or, Option, Some, None}
use Rattle.std.specs.List.{AllByRecursion}
use Rattle.disk_trait.specs.Image.{Image}
use Rattle.entry_model.specs.Entries.{Entry}
use Rattle.key_base.specs.ByteOrder.{is_before}
use Rattle.map_model.specs.SortedMap.{Bytes}
use Rattle.merge_rows.specs.Merges.{Merge, TableWalk, merge_from, rows_left, walk_left}
use Rattle.merge_rows.specs.Reads.{wanted_by}
use Rattle.merge_rows.specs.Rows.{KeyFloor}
use Rattle.merge_rows.specs.Steps.{IsSoundMerge}
use Rattle.table_file.specs.Opened.{Opened}

-- a merge of all walks, those that sleep too; and the waking key of each that sleeps
pub record LateMerge : Type 0 where
  pub merge : Merge
  pub asleep : List (Option Bytes)

-- the waking key of the walk of a place, none where it is awake
abbrev pub waking_at : List (Option Bytes) → ℕ → Option Bytes
waking_at asleep at = get_or asleep at None

-- the walk of a place
abbrev pub no_walk : TableWalk
no_walk = record { number = 0; walk = record { room = 0; bound = None; block = 0; now = None; later = [] } }

abbrev pub walk_in : List TableWalk → ℕ → TableWalk
walk_in walks at = get_or walks at no_walk

-- the walks that are awake, in their order
abbrev pub awake_of : List (Option Bytes) → List TableWalk → List TableWalk
awake_of [] walks = walks
awake_of (o ∷ asleep) [] = []
awake_of (None ∷ asleep) (w ∷ walks) = w ∷ awake_of asleep walks
awake_of (Some key ∷ asleep) (w ∷ walks) = awake_of asleep walks

-- the blocks that the next row wants of the walks that are awake
abbrev pub wanted_awake : KeyFloor → List Opened → List (Option Bytes) → List TableWalk → ℕ
wanted_awake floor tables asleep walks = wanted_by floor tables (awake_of asleep walks)

-- ---- what sleepers are

-- no entry is below a key
abbrev pub AreFrom : Bytes → List Entry → Type 0
AreFrom key entries = AllByRecursion (λ (e : Entry). is_before e.key key ≡ false) entries

-- no sleeper has an entry at hand
abbrev pub AreStill : List (Option Bytes) → List TableWalk → Type 0
AreStill asleep walks = (at : ℕ) (key : Bytes) → waking_at asleep at ≡ Some key → (walk_in walks at).walk.now ≡ None

-- what is left of a sleeper is nowhere below its waking key
abbrev pub SleepWell : List Opened → Image → List (Option Bytes) → List TableWalk → Type 0
SleepWell tables image asleep walks = (at : ℕ) (key : Bytes) → waking_at asleep at ≡ Some key → AreFrom key (walk_left tables image (walk_in walks at))

pub record IsSoundLate (l : LateMerge) (tables : List Opened) (image : Image) : Type 0 where
  pub merge : IsSoundMerge l.merge tables image
  pub asleep : SleepWell tables image l.asleep l.merge.walks

-- the rows that are still to come: those of all walks, asleep or awake
abbrev pub late_rows : LateMerge → List Opened → Image → List Entry
late_rows l tables image = rows_left l.merge tables image

-- a merge from a bound on, of which the walks with a waking key sleep; tombstones are rows
abbrev pub late_from : List ℕ → List (Option Bytes) → List Opened → Option (List Entry) → Bytes → LateMerge
late_from which asleep tables memory low = record { merge = merge_from which tables memory low false; asleep = asleep }

-- ---- who wakes next

abbrev pub IsKeyFrom : Bytes → Option Bytes → Type 0
IsKeyFrom key None = Unit {0}
IsKeyFrom key (Some other) = is_before other key ≡ false

-- of the first so many walks, a sleeper of which no other one has a lesser waking key; none where all of them are awake
abbrev pub IsNextOf : ℕ → List (Option Bytes) → Option ℕ → Type 0
IsNextOf count asleep None = (at : ℕ) → at < count → waking_at asleep at ≡ None
IsNextOf count asleep (Some next) = (key : Bytes) × (waking_at asleep next ≡ Some key) × ((at : ℕ) → at < count → IsKeyFrom key (waking_at asleep at))

-- so of all of them
abbrev pub IsNext : List (Option Bytes) → Option ℕ → Type 0
IsNext asleep None = (at : ℕ) → waking_at asleep at ≡ None
IsNext asleep (Some next) = (key : Bytes) × (waking_at asleep next ≡ Some key) × ((at : ℕ) → IsKeyFrom key (waking_at asleep at))
