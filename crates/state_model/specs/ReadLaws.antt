-- Laws of reads: which tables are searched, how many blocks are read, and what an estimate counts.
use Rattle.std.specs.Prelude.{◌≡◌, ◌≤◌, ◌&&◌, ℕ, suc, true, false, [], filter, count_by, sum_by, Option, Some, None, Ok}
use Rattle.std.specs.Option.{is_none}
use Rattle.std.specs.List.{AllByRecursion}
use Rattle.byte_fields.specs.Spelling.{IsBytes}
use Rattle.map_model.specs.SortedMap.{Bytes, Map, get}
use Rattle.entry_model.specs.Entries.{Entry}
use Rattle.entry_model.specs.Newest.{lookup}
use Rattle.map_model.specs.Slices.{is_before, is_between, seek, count}
use Rattle.state_model.specs.State.{State}
use Rattle.table_model.specs.Tables.{FilterBytes, Table}
use Rattle.state_model.specs.View.{memory, state_map}
use Rattle.state_model.specs.Changes.{compacted}
use Rattle.state_model.specs.Bounds.{admits_range, is_searched, get_bound, seek_bound, tables_between, is_passed, stepped, estimate, admitted}
use Rattle.state_model.specs.Sound.{IsSoundTable, IsSound}

-- how many of a table's entries lie from lo to hi and have a key that the map has not
abbrev pub deleted_between : Map → Bytes → Bytes → Table → ℕ
deleted_between map lo hi t = count_by (λ (e : Entry). is_between lo (Some hi) e.key && is_none (get map e.key)) t.entries

-- A sound table that has an entry of a key is searched for it, and none that has one from lo to hi denies these bounds.
pub record HeldIsSearched : Type 0 where
  pub key :
      (t : Table) (key : Bytes) (value : Option Bytes) → IsSoundTable t → lookup t.entries key ≡ Some value
      → is_searched key t ≡ true
  pub range :
      (t : Table) (lo hi key : Bytes) (value : Option Bytes) → IsSoundTable t → IsBytes lo → IsBytes hi
      → is_before hi lo ≡ false
      → lookup t.entries key ≡ Some value → is_between lo (Some hi) key ≡ true → admits_range lo hi t ≡ true

-- A get reads no more blocks than tables admit the key, and at most one where all tables are on one level below level 0,
-- as after a compaction.
pub record GetsAreBounded : Type 0 where
  pub few : (s : State) (key : Bytes) → get_bound s key ≤ admitted s key
  pub one_level :
      (filter_bytes : FilterBytes) (s : State) (level : ℕ) (key : Bytes) → IsSound filter_bytes s → 1 ≤ level
      → AllByRecursion (λ (t : Table). t.level ≡ level) s.tables → get_bound s key ≤ 1
  pub behind_compaction :
      (filter_bytes : FilterBytes) (s after : State) (key : Bytes) → IsSound filter_bytes s
      → compacted filter_bytes s ≡ Ok after → get_bound after key ≤ 1

-- The bounds allow no block without tables, nor for a get of what the memory has, nor between crossed bounds.
pub record NothingIsRead : Type 0 where
  pub get_without_tables : (s : State) (key : Bytes) → s.tables ≡ [] → get_bound s key ≡ 0
  pub get_from_memory : (s : State) (key : Bytes) (value : Option Bytes) → lookup (memory s) key ≡ Some value → get_bound s key ≡ 0
  pub seek_without_tables : (s : State) (lo hi : Bytes) → s.tables ≡ [] → seek_bound s lo hi ≡ 0
  pub crossed_seek : (s : State) (lo hi : Bytes) → is_before hi lo ≡ true → seek_bound s lo hi ≡ 0
  pub none_between_without_tables : (s : State) (lo hi : Bytes) → s.tables ≡ [] → tables_between s lo hi ≡ 0
  pub none_between_crossed : (s : State) (lo hi : Bytes) → is_before hi lo ≡ true → tables_between s lo hi ≡ 0

-- A closed seek may read no more than one that looked up to its upper bound whatever it finds: of each table that admits all of the
-- bounds one block, and one more for each entry stepped over.
abbrev pub SeeksLookNoFarther : Type 0
SeeksLookNoFarther =
    (s : State) (lo hi : Bytes) → seek_bound s lo hi ≤ sum_by (λ (t : Table). suc (stepped (state_map s) lo hi t)) (filter (admits_range lo hi) s.tables)

-- A key that a closed seek steps over is not in the map: it is a deleted one. So of a table it steps over no more entries
-- than lie between the bounds and have keys that the map has not.
pub record SteppedAreDeleted : Type 0 where
  pub key :
      (s : State) (lo hi key : Bytes) → is_between lo (Some hi) key ≡ true → is_passed (seek (state_map s) lo (Some hi)) key ≡ true
      → get (state_map s) key ≡ None
  pub count : (s : State) (lo hi : Bytes) (t : Table) → stepped (state_map s) lo hi t ≤ deleted_between (state_map s) lo hi t

-- Between two byte strings a sound state's estimate is not below the true count.
abbrev pub EstimateIsEnough : Type 0
EstimateIsEnough =
    (filter_bytes : FilterBytes) (s : State) (lo hi : Bytes) → IsSound filter_bytes s → IsBytes lo → IsBytes hi
    → count (state_map s) lo (Some hi) ≤ estimate s lo hi
