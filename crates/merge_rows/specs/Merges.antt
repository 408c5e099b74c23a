-- Where a merge is, and the rows that are still to come.
use Rattle.std.specs.Prelude.{ℕ, ◌-◌, Bool, false, List, [], ◌∷◌, length, map, slice_get, Option, Some, None}
use Rattle.disk_trait.specs.Image.{Image}
use Rattle.entry_model.specs.Entries.{Entry}
use Rattle.entry_model.specs.Newest.{entries_from}
use Rattle.map_model.specs.SortedMap.{Bytes}
use Rattle.merge_rows.specs.Rows.{KeyFloor, above_floor, merged_rows, rows_shown}
use Rattle.table_file.specs.Opened.{Opened}
use Rattle.table_file.specs.Walks.{CursorWalk, blocks_on, to_come, walk_from}

-- a walk over the table of a number
pub record TableWalk : Type 0 where
  pub number : ℕ
  pub walk : CursorWalk

-- where rows go on, whether tombstones are dropped, the row at hand, the entries of the memory table that are left, and the
-- walks, the newest table first
pub record Merge : Type 0 where
  pub floor : KeyFloor
  pub drops : Bool
  pub now : Option Entry
  pub memory : List Entry
  pub walks : List TableWalk

-- tables are numbered from the last, which has 0
abbrev pub numbered : {A : Type 0} → List A → ℕ → Option A
numbered tables number = slice_get tables (length tables - 1 - number)

abbrev pub blocks_in : Option Opened → Image → List (List Entry)
blocks_in None image = []
blocks_in (Some t) image = blocks_on t image

abbrev pub row_count : Option Opened → ℕ
row_count None = 0
row_count (Some t) = length t.index.rows

-- the entry at hand, and those to come
abbrev pub with_hand : Option Entry → List Entry → List Entry
with_hand None later = later
with_hand (Some entry) later = entry ∷ later

-- what is left of a walk, at hand or to come
abbrev pub walk_left : List Opened → Image → TableWalk → List Entry
walk_left tables image w = with_hand w.walk.now (to_come w.walk (blocks_in (numbered tables w.number) image))

-- what is left above a floor, of a walk and of each source
abbrev pub left_above : KeyFloor → List Opened → Image → TableWalk → List Entry
left_above floor tables image w = above_floor floor (walk_left tables image w)

abbrev pub sources_above : KeyFloor → List Opened → Image → List Entry → List TableWalk → List (List Entry)
sources_above floor tables image memory walks = above_floor floor memory ∷ map (left_above floor tables image) walks

-- the rows of what is left above the floor, tombstones among them
abbrev pub merged_left : Merge → List Opened → Image → List Entry
merged_left m tables image = merged_rows (sources_above m.floor tables image m.memory m.walks)

-- the rows that are still to come
abbrev pub rows_left : Merge → List Opened → Image → List Entry
rows_left m tables image = rows_shown m.drops (merged_left m tables image)

-- ---- a merge from a bound on

abbrev pub walk_at : Option Opened → Bytes → CursorWalk
walk_at None low = record { room = 0; bound = Some low; block = 0; now = None; later = [] }
walk_at (Some t) low = walk_from t low

abbrev pub memory_from : Option (List Entry) → Bytes → List Entry
memory_from None low = []
memory_from (Some entries) low = entries_from entries low

abbrev pub merge_from : List ℕ → List Opened → Option (List Entry) → Bytes → Bool → Merge
merge_from which tables memory low drops = record {
  floor = record { key = low; passed = false };
  drops = drops;
  now = None;
  memory = memory_from memory low;
  walks = map (λ (number : ℕ). record { number = number; walk = walk_at (numbered tables number) low }) which;
}
