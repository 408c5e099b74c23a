-- What a scan of a store is, and the pairs that it gives.
use Rattle.std.specs.Prelude.{◌≡◌, ◌≢◌, ◌<◌, ◌+◌, ◌-◌, ℕ, zero, suc, Bool, true, false, not, ◌&&◌, ◌==◌, if◌then◌else◌, List, [], ◌∷◌, length, map, take, count_by, sum_by, Contains, is_some, Option, Some, None, IfSome, IsTrue}
use Rattle.std.specs.List.{AllByRecursion}
use Rattle.std.specs.Option.{option_map, option_map_or}
use Rattle.disk_trait.specs.Image.{Image}
use Rattle.disk_trait.specs.World.{World}
use Rattle.entry_model.specs.Entries.{Entry}
use Rattle.filter_api.specs.Spellings.{Spelling}
use Rattle.filter_model.specs.Answers.{ranged}
use Rattle.late_rows.specs.Late.{IsSoundLate, LateMerge, late_rows, waking_at}
use Rattle.late_rows.specs.Opening.{SleepOn}
use Rattle.line_model.specs.Replies.{Reply}
use Rattle.map_model.specs.Slices.{first_pair, is_before, is_up_to}
use Rattle.map_model.specs.SortedMap.{Bytes, Map}
use Rattle.merge_rows.specs.Merges.{Merge, TableWalk, left_above, merge_from, walk_left}
use Rattle.merge_rows.specs.Reads.{HasReadAll, PassSound, SomeBlock, blocks_left, ones, wants}
use Rattle.merge_rows.specs.Rows.{KeyFloor, clears}
use Rattle.merge_rows.specs.Steps.{AreHeadsClear, FloorRises, numbers, stands}
use Rattle.state_model.specs.Bounds.{is_passed, tables_between}
use Rattle.state_model.specs.State.{State}
use Rattle.store_core.specs.Answers.{IsTried, told_limit}
use Rattle.store_search.specs.Searching.{ReadRose}
use Rattle.store_search.specs.TablesAgree.{TablesAgree}
use Rattle.store_core.specs.declared.error.StoreError.{StoreError}
use Rattle.store_core.specs.declared.error.StoreError.TheVariants as error
use Rattle.table_file.specs.Faults.{IsBlockDamage}
use Rattle.table_file.specs.Opened.{Opened}
use Rattle.table_file.specs.Search.{IsGetFault, IsSoundBlock, row_at}
use Rattle.table_file.specs.declared.fault.TableFault.TheVariants as table
use Rattle.table_model.specs.Tables.{Table}
use Rattle.waking_keys.specs.Waking.{waking_key}

-- Where a scan is: the tables, the merge of their rows and those in memory, the waking keys of the walks that sleep, the upper bound,
-- how many pairs more it gives at most, and the pair at hand.
pub record ScanWalk : Type 0 where
  pub tables : List Opened
  pub merge : Merge
  pub asleep : List (Option Bytes)
  pub high : Option Bytes
  pub left : Option ℕ
  pub now : Option (Bytes × Bytes)

-- its merge, which opens tables late
abbrev pub late_of : ScanWalk → LateMerge
late_of scan = record { merge = scan.merge; asleep = scan.asleep }

-- how many tables it may read
abbrev pub opened_tables : ScanWalk → ℕ
opened_tables scan = length scan.merge.walks

-- no waking key is above the upper bound
abbrev pub AreUpTo : Option Bytes → List (Option Bytes) → Type 0
AreUpTo high asleep = (at : ℕ) (key : Bytes) → waking_at asleep at ≡ Some key → is_up_to high key ≡ true

-- ---- the pairs of rows

-- a row is a pair, unless it is a tombstone
abbrev pub pair_of : Bytes → Option Bytes → Option (Bytes × Bytes)
pair_of key None = None
pair_of key (Some value) = Some (key, value)

abbrev pub pair_in : Option Entry → Option (Bytes × Bytes)
pair_in None = None
pair_in (Some row) = pair_of row.key row.value

-- the row at hand is a pair that was found, or none is
abbrev pub pair_at : Bool → Option Entry → Option (Bytes × Bytes)
pair_at found row = if found then pair_in row else None

abbrev pub before_pairs : Bytes → Option Bytes → Map → Map
before_pairs key None later = later
before_pairs key (Some value) later = (key, value) ∷ later

-- the pairs before the first row above a bound
abbrev pub pairs_up_to : Option Bytes → List Entry → Map
pairs_up_to high [] = []
pairs_up_to high (row ∷ later) = if is_up_to high row.key then before_pairs row.key row.value (pairs_up_to high later) else []

-- the pair of the row at hand, and then others; or none at all
abbrev pub with_first : Option (Bytes × Bytes) → Map → Map
with_first None later = later
with_first (Some pair) later = pair ∷ later

abbrev pub given : Bool → Option Entry → Map → Map
given true row later = with_first (pair_in row) later
given false row later = []

-- no more than that many
abbrev pub at_most : Option ℕ → Map → Map
at_most None pairs = pairs
at_most (Some n) pairs = take n pairs

-- the pairs that are still to come, where the device reads as this image
abbrev pub pairs_left : ScanWalk → Image → Map
pairs_left scan image = at_most scan.left (pairs_up_to scan.high (late_rows (late_of scan) scan.tables image))

-- On an image that has the tables, these pairs are still to come.
pub record StillComes (spelling : Spelling) (scan : ScanWalk) (pairs : Map) (image : Image) : Type 0 where
  pub states : List Table
  pub held : TablesAgree spelling scan.tables states image
  pub sound : IsSoundLate (late_of scan) scan.tables image
  pub pairs_are : pairs_left scan image ≡ pairs

-- ---- which tables are opened, and what is read

-- the table's filter admits the keys between two bounds; without an upper one it is not asked
abbrev pub filter_admits : Bytes → Option Bytes → Opened → Bool
filter_admits low None t = true
filter_admits low (Some high) t = not (is_before high low) && ranged t.filter.real_bits t.filter.leaves low high

-- the least key that the table may have from a bound on, as its filter, its least and its greatest key say it
abbrev pub waking_from : Bytes → Opened → Option Bytes
waking_from low t = waking_key t.filter.real_bits t.filter.leaves t.index.least (row_at t.index.rows (length t.index.rows - 1)).last low

-- a key, unless it is above the upper bound
abbrev pub key_up_to : Option Bytes → Option Bytes → Option Bytes
key_up_to high None = None
key_up_to high (Some key) = if is_up_to high key then Some key else None

-- so between two bounds, where its filter admits them
abbrev pub waking_between : Bytes → Option Bytes → Opened → Option Bytes
waking_between low high t = if filter_admits low high t then key_up_to high (waking_from low t) else None

-- the table may have a key between two bounds
abbrev pub admits_keys : Bytes → Option Bytes → Opened → Bool
admits_keys low high t = is_some (waking_between low high t)

-- the numbers of these tables, counted from the last of all
abbrev pub numbers_admitting : Bytes → Option Bytes → List Opened → List ℕ
numbers_admitting low high [] = []
numbers_admitting low high (t ∷ older) = if admits_keys low high t then length older ∷ numbers_admitting low high older else numbers_admitting low high older

-- their waking keys
abbrev pub keys_admitting : Bytes → Option Bytes → List Opened → List (Option Bytes)
keys_admitting low high [] = []
keys_admitting low high (t ∷ older) = if admits_keys low high t then waking_between low high t ∷ keys_admitting low high older else keys_admitting low high older

-- their blocks
abbrev pub blocks_admitting : Bytes → Option Bytes → List Opened → ℕ
blocks_admitting low high [] = 0
blocks_admitting low high (t ∷ older) = if admits_keys low high t then length t.index.rows + blocks_admitting low high older else blocks_admitting low high older

-- the blocks that a scan has still to read
abbrev pub blocks_to_come : ScanWalk → ℕ
blocks_to_come scan = blocks_left scan.tables scan.merge.walks

-- the blocks that a walk may need before the rows are passed whose keys pass a test: one where the next row needs it, and one more
-- for each of its entries there
abbrev pub owed : (Bytes → Bool) → KeyFloor → List Opened → Image → TableWalk → ℕ
owed below floor tables image w = ones (wants floor tables w) + count_by (λ (e : Entry). clears floor e.key && below e.key) (walk_left tables image w)

-- the key up to which a step looks for the first of some pairs: that of the pair, or the upper bound where there is none
abbrev pub looks_up_to : Option Bytes → Map → Option Bytes
looks_up_to high pairs = option_map_or (λ (pair : Bytes × Bytes). Some pair.0) (first_pair pairs) high

-- a walk that is awake, or wakes on the way there
abbrev pub wakes_up_to : Option Bytes → Option Bytes → Bool
wakes_up_to looks None = true
wakes_up_to looks (Some key) = is_up_to looks key

-- these walks, in their order
abbrev pub woken_up_to : Option Bytes → List (Option Bytes) → List TableWalk → List TableWalk
woken_up_to looks [] walks = walks
woken_up_to looks (o ∷ asleep) [] = []
woken_up_to looks (o ∷ asleep) (w ∷ walks) = if wakes_up_to looks o then w ∷ woken_up_to looks asleep walks else woken_up_to looks asleep walks

abbrev pub all_owed : (Bytes → Bool) → Option Bytes → LateMerge → List Opened → Image → ℕ
all_owed below looks l tables image = sum_by (owed below l.merge.floor tables image) (woken_up_to looks l.asleep l.merge.walks)

-- a row is passed over on the way to the first of some pairs: it is not above the upper bound, and comes before that pair
abbrev pub is_on_the_way : Option Bytes → Map → Bytes → Bool
is_on_the_way high pairs key = is_up_to high key && is_passed (first_pair pairs) key

-- the blocks that are read at most for the next pair: one of each table that is awake or wakes on the way, and one more for each of its
-- entries there
abbrev pub blocks_on_way : Option Bytes → LateMerge → List Opened → Image → ℕ
blocks_on_way high l tables image =
    let pairs = pairs_up_to high (late_rows l tables image) in
    all_owed (is_on_the_way high pairs) (looks_up_to high pairs) l tables image

-- none where no pair is wanted
abbrev pub blocks_of_step : Option ℕ → ℕ → ℕ
blocks_of_step None blocks = blocks
blocks_of_step (Some zero) blocks = 0
blocks_of_step (Some (suc n)) blocks = blocks

-- the blocks that the next step may read
abbrev pub step_bound : ScanWalk → Image → ℕ
step_bound scan image = blocks_of_step scan.left (blocks_on_way scan.high (late_of scan) scan.tables image)

-- a scan of the state between these bounds may read
abbrev pub MayRead : State → Bytes → Option Bytes → Type 0
MayRead s low None = s.tables ≢ []
MayRead s low (Some high) = 0 < tables_between s low high

-- Some steps on the way to the next pair. Who sleeps slept before, and no block of its table was read. Who slept and is awake has a waking
-- key up to the key of that pair, or up to the upper bound where there is none.
pub record WakesLate (tells : Bool) (tables : List Opened) (image : Image) (high : Option Bytes) (old new : LateMerge) : Type 0 where
  pub numbers_are : numbers new.merge.walks ≡ numbers old.merge.walks
  pub stands_are : stands new.merge.walks ≡ stands old.merge.walks
  pub drops_are : new.merge.drops ≡ old.merge.drops
  pub sleep_on : SleepOn old new
  pub woken : IsTrue tells → IsSoundLate old tables image → (at : ℕ) → waking_at new.asleep at ≡ None
      → wakes_up_to (looks_up_to high (pairs_up_to high (late_rows old tables image))) (waking_at old.asleep at) ≡ true
  pub sound : IsTrue tells → IsSoundLate old tables image → IsSoundLate new tables image

-- ---- what was passed, whatever the tables' blocks are

-- A walk was gone along up to an upper bound: the entry at hand is above it, or none is and each block of the table was read.
pub record IsDoneUpTo (high : Option Bytes) (tables : List Opened) (w : TableWalk) : Type 0 where
  pub above : IfSome w.walk.now (λ e. is_up_to high e.key ≡ false)
  pub whole : HasReadAll tables w

abbrev pub AreDoneUpTo : Option Bytes → List Opened → List TableWalk → Type 0
AreDoneUpTo high tables walks = AllByRecursion (IsDoneUpTo high tables) walks

-- a scan has given all its pairs
abbrev pub IsScanDone : ScanWalk → Type 0
IsScanDone scan = AreDoneUpTo scan.high scan.tables scan.merge.walks

-- A merge went on: above a floor, to which its rows had come, the same is left of each walk.
pub record GoesOn (tables : List Opened) (image : Image) (old new : Merge) : Type 0 where
  pub floor : KeyFloor
  pub rises : FloorRises old.floor floor
  pub onward : FloorRises floor new.floor
  pub same : map (left_above floor tables image) new.walks ≡ map (left_above floor tables image) old.walks

-- so by a step: after it each entry at hand is above that floor
pub record StepsOn (tables : List Opened) (image : Image) (old new : Merge) : Type 0 where
  pub on : GoesOn tables image old new
  pub clear : AreHeadsClear on.floor new.walks

-- A scan has given all its pairs, from some walks on: each entry at hand is above the upper bound, and it is one of those that were
-- left of its walk at first.
pub record HasGivenAll (begun : List TableWalk) (image : Image) (scan : ScanWalk) : Type 0 where
  pub done : IsScanDone scan
  pub floor : KeyFloor
  pub same : map (left_above floor scan.tables image) scan.merge.walks ≡ map (left_above floor scan.tables image) begun
  pub clear : AreHeadsClear floor scan.merge.walks

-- each block of these tables is sound
abbrev pub AreAllSound : List Opened → Image → Type 0
AreAllSound tables image = AllByRecursion (λ (t : Opened). (n : ℕ) → n < length t.index.rows → IsSoundBlock t n image) tables

-- the walks of a scan between two bounds, as it begins: over the tables that may have a key there
abbrev pub walks_between : Bytes → Option Bytes → List Opened → List TableWalk
walks_between low high tables = (merge_from (numbers_admitting low high tables) tables None low false).walks

-- What was counted: a scan from the lower bound on, over sound blocks alone, up to where it had given all its pairs, unless as many
-- were counted as a number holds.
pub record CountsSound (tables : List Opened) (low high : Bytes) (image : Image) (count : ℕ) : Type 0 where
  pub walked : ScanWalk
  pub tables_are : walked.tables ≡ tables
  pub high_is : walked.high ≡ Some high
  pub passes : PassSound tables image (walks_between low (Some high) tables) walked.merge.walks
  pub done : count < 18446744073709551615 → HasGivenAll (walks_between low (Some high) tables) image walked

-- ---- how many pairs more

abbrev pub is_ended : Option ℕ → Bool
is_ended None = false
is_ended (Some n) = n == 0

abbrev pub one_fewer : Option ℕ → Option ℕ
one_fewer left = option_map (λ (n : ℕ). n - 1) left

-- after a step that gave a pair or not
abbrev pub left_behind : Bool → Option ℕ → Option ℕ
left_behind true left = one_fewer left
left_behind false left = Some 0

-- ---- refusals

-- why there is no scan, of a store that was stopped or not, where this limit was broken
abbrev pub IsScanRefusal : Bool → Option Reply → StoreError → Type 0
IsScanRefusal stopped broken error.Memory = IsTried stopped broken
IsScanRefusal stopped broken error.Stopped = stopped ≡ true
IsScanRefusal stopped broken (error.Limit limit) = (stopped ≡ false) × (broken ≡ Some (told_limit limit))
IsScanRefusal stopped broken (error.Device cause) = ⊥
IsScanRefusal stopped broken (error.Full need gap) = ⊥
IsScanRefusal stopped broken (error.Damaged damage) = ⊥
IsScanRefusal stopped broken error.NotAStore = ⊥
IsScanRefusal stopped broken error.AlreadyAStore = ⊥
IsScanRefusal stopped broken (error.BadSettings field) = ⊥

-- why a scan does not go on: memory is never wanted
abbrev pub IsStepFault : World → World → StoreError → Type 0
IsStepFault old new (error.Device cause) = ReadRose old new cause
IsStepFault old new (error.Damaged damage) = IsBlockDamage damage
IsStepFault old new error.Memory = ⊥
IsStepFault old new error.Stopped = ⊥
IsStepFault old new (error.Limit limit) = ⊥
IsStepFault old new (error.Full need gap) = ⊥
IsStepFault old new error.NotAStore = ⊥
IsStepFault old new error.AlreadyAStore = ⊥
IsStepFault old new (error.BadSettings field) = ⊥

-- damage is that of a block of one of the tables, and the image shows it
abbrev pub IsScanShown : List Opened → Image → StoreError → Type 0
IsScanShown tables image (error.Damaged damage) = (t : Opened) × Contains tables t × ((n : ℕ) × (n < length t.index.rows) × IsGetFault t n image (table.Damaged damage))
IsScanShown tables image error.Memory = Unit {0}
IsScanShown tables image (error.Device cause) = Unit {0}
IsScanShown tables image error.Stopped = Unit {0}
IsScanShown tables image (error.Limit limit) = Unit {0}
IsScanShown tables image (error.Full need gap) = Unit {0}
IsScanShown tables image error.NotAStore = Unit {0}
IsScanShown tables image error.AlreadyAStore = Unit {0}
IsScanShown tables image (error.BadSettings field) = Unit {0}

-- so with a table that is walked: one of these numbers
abbrev pub IsWalkShown : List Opened → List ℕ → Image → StoreError → Type 0
IsWalkShown tables which image (error.Damaged damage) = SomeBlock tables which (λ t n. IsGetFault t n image (table.Damaged damage))
IsWalkShown tables which image error.Memory = Unit {0}
IsWalkShown tables which image (error.Device cause) = Unit {0}
IsWalkShown tables which image error.Stopped = Unit {0}
IsWalkShown tables which image (error.Limit limit) = Unit {0}
IsWalkShown tables which image (error.Full need gap) = Unit {0}
IsWalkShown tables which image error.NotAStore = Unit {0}
IsWalkShown tables which image error.AlreadyAStore = Unit {0}
IsWalkShown tables which image (error.BadSettings field) = Unit {0}
