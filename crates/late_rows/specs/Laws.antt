-- A merge that opens tables late, of tables that stand on a device, gives the rows of their entries.
use Rattle.std.specs.Prelude.{◌≡◌, ℕ, List, [], ◌∷◌, length, map, get_or, Option, Some}
use Rattle.block_model.specs.Laws.{joined}
use Rattle.disk_trait.specs.Image.{Image}
use Rattle.entry_model.specs.Entries.{Entry}
use Rattle.entry_model.specs.Newest.{KeysRise, entries_from}
use Rattle.filter_api.specs.Spellings.{Spelling}
use Rattle.map_model.specs.SortedMap.{Bytes}
use Rattle.merge_rows.specs.Laws.{NumberedStand, memory_entries}
use Rattle.merge_rows.specs.Rows.{merged_rows}
use Rattle.table_file.specs.Opened.{Opened}
use Rattle.late_rows.specs.Late.{AreFrom, IsSoundLate, late_from, late_rows, waking_at}

-- no entry of a table from the bound on is below its waking key
abbrev pub NoneBefore : Bytes → List (Option Bytes) → List (List (List Entry)) → Type 0
NoneBefore low asleep blocks = (at : ℕ) (key : Bytes) → waking_at asleep at ≡ Some key → AreFrom key (entries_from (joined (get_or blocks at [])) low)

-- the merge is sound, and its rows are those of the newest entries, from the bound on
pub record LateMergeIsWhole (which : List ℕ) (asleep : List (Option Bytes)) (tables : List Opened) (memory : Option (List Entry)) (low : Bytes) (image : Image)
    (blocks : List (List (List Entry))) : Type 0 where
  pub sound : IsSoundLate (late_from which asleep tables memory low) tables image
  pub rows :
      late_rows (late_from which asleep tables memory low) tables image
      ≡ entries_from (merged_rows (memory_entries memory ∷ map (λ (b : List (List Entry)). joined b) blocks)) low

abbrev pub StandingSleepers : Type 0
StandingSleepers =
    (spelling : Spelling) (tables : List Opened) (image : Image) (which : List ℕ) (asleep : List (Option Bytes)) (blocks : List (List (List Entry)))
    (memory : Option (List Entry)) (low : Bytes) → length asleep ≡ length which → NumberedStand spelling tables image which blocks → KeysRise (memory_entries memory) → NoneBefore low asleep blocks
    → LateMergeIsWhole which asleep tables memory low image blocks
