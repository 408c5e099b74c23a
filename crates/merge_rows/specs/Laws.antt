-- A merge of tables that are on a device gives the rows of their entries.
use Rattle.std.specs.Prelude.{◌≡◌, ℕ, Bool, List, [], ◌∷◌, map, Option, Some, None}
use Rattle.disk_trait.specs.Image.{Image}
use Rattle.entry_model.specs.Entries.{Entry}
use Rattle.entry_model.specs.Newest.{KeysRise, entries_from}
use Rattle.block_model.specs.Laws.{joined}
use Rattle.filter_api.specs.Spellings.{Spelling}
use Rattle.map_model.specs.SortedMap.{Bytes}
use Rattle.merge_rows.specs.Merges.{merge_from, numbered, rows_left}
use Rattle.merge_rows.specs.Rows.{merged_rows, rows_shown}
use Rattle.merge_rows.specs.Steps.{IsSoundMerge}
use Rattle.table_file.specs.Opened.{Opened}
use Rattle.table_file.specs.Search.{StandsThere}

-- the tables of these numbers are on the device, each with its blocks
abbrev pub NumberedStand : Spelling → List Opened → Image → List ℕ → List (List (List Entry)) → Type 0
NumberedStand spelling tables image [] [] = Unit {0}
NumberedStand spelling tables image (number ∷ which) (blocks ∷ more) =
    ((t : Opened) × (numbered tables number ≡ Some t) × StandsThere spelling t blocks image) × NumberedStand spelling tables image which more
NumberedStand spelling tables image which blocks = ⊥

abbrev pub memory_entries : Option (List Entry) → List Entry
memory_entries None = []
memory_entries (Some entries) = entries

-- a merge from a bound on is sound, and its rows are those of the newest entries, from there on
pub record MergesAreWhole (which : List ℕ) (tables : List Opened) (memory : Option (List Entry)) (low : Bytes) (drops : Bool) (image : Image)
    (blocks : List (List (List Entry))) : Type 0 where
  pub sound : IsSoundMerge (merge_from which tables memory low drops) tables image
  pub rows :
      rows_left (merge_from which tables memory low drops) tables image
      ≡ rows_shown drops (entries_from (merged_rows (memory_entries memory ∷ map (λ (b : List (List Entry)). joined b) blocks)) low)

abbrev pub StandingMerges : Type 0
StandingMerges =
    (spelling : Spelling) (tables : List Opened) (image : Image) (which : List ℕ) (blocks : List (List (List Entry)))
    (memory : Option (List Entry)) (low : Bytes) (drops : Bool) → NumberedStand spelling tables image which blocks
    → KeysRise (memory_entries memory) → MergesAreWhole which tables memory low drops image blocks
