-- How the tables of some rows follow each other, by the indexes that are sound.
use Rattle.std.specs.Prelude.{◌≡◌, ◌≤◌, ◌<◌, ◌+◌, ◌-◌, ◌*◌, not, ℕ, List, [], ◌∷◌, length, Bool, true, false, Option, Some, None}
use Rattle.std.specs.List.{All}
use Rattle.std.specs.Option.{ForSome, option_or}
use Rattle.block_model.specs.Places.{FitsDevice}
use Rattle.key_base.specs.Limits.{max_tables}
use Rattle.byte_fields.specs.Faults.{Fault}
use Rattle.byte_fields.specs.declared.parts.Row.{Row}
use Rattle.disk_trait.specs.Image.{Image}
use Rattle.manifest.specs.Manifest.{Manifest}
use Rattle.manifest_model.specs.Version.{log_page_of}
use Rattle.manifest_model.specs.Tables.{KeyRange, follows}
use Rattle.table_file.specs.Opened.{RowIndex}
use Rattle.table_file.specs.Search.{row_at}
use Rattle.image_model.specs.Findings.{has_sound_index, neighbours_fault}
use Rattle.image_model.specs.Opening.{key_range_of}

-- how many rows were looked at, where the keys of the last of them lie if its index is sound, and the first that does not follow
-- the one before it
pub record TableOrder : Type 0 where
  pub rows : ℕ
  pub before : Option KeyRange
  pub broken : Option ℕ

abbrev pub no_tables : TableOrder
no_tables = record { rows = 0; before = None; broken = None }

-- where the keys of an index that was read lie
abbrev pub range_of_index : RowIndex → KeyRange
range_of_index x = record { level = x.row.level; least = x.index.least; greatest = (row_at x.index.rows (length x.index.rows - 1)).last; reach = [] }

-- a row does not follow the one before it, where both indexes are sound
abbrev pub is_out_of_order : Option KeyRange → Option KeyRange → Bool
is_out_of_order None range = false
is_out_of_order (Some before) None = false
is_out_of_order (Some before) (Some range) = not (follows before range)

abbrev pub when : {A : Type 0} → Bool → A → Option A
when true a = Some a
when false a = None

-- one row more
abbrev pub with_row : Option KeyRange → TableOrder → TableOrder
with_row range order = record {
  rows = order.rows + 1;
  before = range;
  broken = option_or order.broken (when (is_out_of_order order.before range) order.rows);
}

-- rule 12, at the place of a row in the body
abbrev pub broken_fault : Option ℕ → Option Fault
broken_fault None = None
broken_fault (Some number) = Some (record { place = 64 + 64 * number; rule = 12 })

-- ---- as an image has it

abbrev pub range_in : Image → Row → Bool → Option KeyRange
range_in image row true = Some (key_range_of image row)
range_in image row false = None

abbrev pub range_behind : Option KeyRange → Image → List Row → Option KeyRange
range_behind before image [] = before
range_behind before image (row ∷ rows) = range_behind (range_in image row (has_sound_index row image)) image rows

-- these rows were looked at
pub record IsOrderOf (image : Image) (rows : List Row) (order : TableOrder) : Type 0 where
  pub rows_are : order.rows ≡ length rows
  pub before_is : order.before ≡ range_behind None image rows
  pub broken_is : broken_fault order.broken ≡ neighbours_fault rows image

-- ---- over any device

-- the version is one that a slot may hold, and no more rows were looked at than it has
pub record IsSoundAt (m : Manifest) (order : TableOrder) : Type 0 where
  pub few : length m.version.rows ≤ max_tables
  pub slot : m.slot ≤ 1
  pub log_page : m.version.log_page ≤ log_page_of 1
  pub fits : All FitsDevice m.version.rows
  pub rows : order.rows ≤ length m.version.rows
  pub broken : ForSome order.broken (λ (number : ℕ). number < order.rows)
