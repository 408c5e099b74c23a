-- Entries that have a value, and tables whose keys rise from one to the next.
use Rattle.std.specs.Prelude.{◌≡◌, ◌==◌, ◌&&◌, ℕ, suc, Bool, true, not, List, [], ◌∷◌, length, Option, Some, None}
use Rattle.std.specs.List.{sum_by}
use Rattle.block_format.specs.declared.walk.ValuePlace.{ValuePlace}
use Rattle.byte_fields.specs.declared.parts.Row.{Row}
use Rattle.disk_trait.specs.Image.{Image}
use Rattle.entry_model.specs.Entries.{Entry}
use Rattle.filter_api.specs.Spellings.{Spelling}
use Rattle.image_model.specs.Stands.{IsStateOf}
use Rattle.map_model.specs.SortedMap.{Bytes}
use Rattle.state_model.specs.State.{State}
use Rattle.state_model.specs.View.{state_map}
use Rattle.table_model.specs.Tables.{Table}

-- one more where there is a value
abbrev pub with_value : Option Bytes → ℕ → ℕ
with_value None later = later
with_value (Some value) later = suc later

-- how many of some entries have a value
abbrev pub values_in : List Entry → ℕ
values_in [] = 0
values_in (e ∷ later) = with_value e.value (values_in later)

-- 1 where the entry that a walk came by has a value at a place
abbrev pub value_at_hand : Option (Option ValuePlace) → ℕ
value_at_hand None = 0
value_at_hand (Some None) = 0
value_at_hand (Some (Some place)) = 1

abbrev pub table_values : Table → ℕ
table_values t = values_in t.entries

-- ---- one level deeper than 0

-- these tables are on a level
abbrev pub all_on : ℕ → List Row → Bool
all_on level [] = true
all_on level (row ∷ rows) = (row.level == level) && all_on level rows

abbrev pub are_on_one_level : List Row → Bool
are_on_one_level [] = true
are_on_one_level (row ∷ rows) = not (row.level == 0) && all_on row.level rows

-- Where all tables of a state are on one level deeper than 0 no key is in two of them, by rule 12. So where besides no log record
-- comes after them and none has a deleted range, the state has as many pairs as they have values.
abbrev pub OneLevelHasItsValues : Type 0
OneLevelHasItsValues =
    (spelling : Spelling) (image : Image) (s : State) → (is : IsStateOf spelling s image) → s.log ≡ [] → are_on_one_level is.0.rows ≡ true
    → length (state_map s) ≡ sum_by table_values s.tables
