-- A check of a whole store: where it is, and what it has still to find.
use Rattle.std.specs.Prelude.{◌≡◌, ◌≤◌, ◌+◌, ◌-◌, ◌*◌, ◌^◌, ◌++◌, ℕ, List, [], length, take, drop, slice_get, Option, Some, None}
use Rattle.std.specs.Option.{option_and_then}
use Rattle.byte_fields.specs.Faults.{Fault}
use Rattle.byte_fields.specs.declared.parts.Row.{Row}
use Rattle.disk_trait.specs.Image.{Image}
use Rattle.filter_api.specs.Spellings.{Spelling}
use Rattle.manifest.specs.Manifest.{Manifest, place_of}
use Rattle.manifest_model.specs.Slots.{IsVersionOf}
use Rattle.map_model.specs.SortedMap.{Bytes}
use Rattle.table_file.specs.Faults.{filter_fault_of}
use Rattle.image_model.specs.Findings.{Finding, LogFindings, RowsFindings, neighbours_fault, ranges_findings}
use Rattle.store_check.specs.Orders.{IsOrderOf, TableOrder, broken_fault}
use Rattle.store_check.specs.declared.check.Check.{Check}
use Rattle.store_check.specs.declared.stage.Stage.{Stage}
use Rattle.store_check.specs.declared.stage.Stage.TheVariants as stage

-- what is found and not given yet
abbrev pub waiting : Check → List Finding
waiting c = drop c.place c.found.items

-- ---- what is still to come

-- the rows from a number on
abbrev pub rows_left : Manifest → TableOrder → List Row
rows_left m order = drop order.rows m.version.rows

-- of a part on, what is found there and after it
abbrev pub PartsLeft : Spelling → (Bytes → Fault) → Image → Manifest → TableOrder → Stage → List Finding → Type 0
PartsLeft spelling first_fault image m order stage.Rows findings =
    (of_rows : List Finding) × (of_log : List Finding) × RowsFindings spelling (filter_fault_of first_fault) image (rows_left m order) of_rows
    × LogFindings m.version image of_log × (findings ≡ of_rows ++ (ranges_findings (place_of m.slot) (neighbours_fault m.version.rows image) ++ of_log))
PartsLeft spelling first_fault image m order stage.Ranges findings =
    (of_log : List Finding) × LogFindings m.version image of_log × (findings ≡ ranges_findings (place_of m.slot) (broken_fault order.broken) ++ of_log)
PartsLeft spelling first_fault image m order stage.Log findings = LogFindings m.version image findings
PartsLeft spelling first_fault image m order stage.End findings = findings ≡ []

abbrev pub VersionLeft : Spelling → (Bytes → Fault) → Image → TableOrder → Stage → Option Manifest → List Finding → Type 0
VersionLeft spelling first_fault image order at None findings = findings ≡ []
VersionLeft spelling first_fault image order at (Some m) findings = PartsLeft spelling first_fault image m order at findings

-- what waits, and then what the parts give that were not looked at
abbrev pub AreLeft : Spelling → (Bytes → Fault) → Image → Check → List Finding → Type 0
AreLeft spelling first_fault image c findings =
    (behind : List Finding) × VersionLeft spelling first_fault image c.order c.stage c.version behind × (findings ≡ waiting c ++ behind)

-- ---- what is known of the parts that were looked at

-- all rows were looked at once their stage is over
abbrev pub RowsDone : Manifest → TableOrder → Stage → Type 0
RowsDone m order stage.Rows = order.rows ≤ length m.version.rows
RowsDone m order at = order.rows ≡ length m.version.rows

pub record IsLookedAt (image : Image) (m : Manifest) (order : TableOrder) (at : Stage) : Type 0 where
  pub version_is : IsVersionOf m.version image
  pub rows_done : RowsDone m order at
  pub order_is : IsOrderOf image (take order.rows m.version.rows) order

-- where a slot is damaged nothing is looked at
abbrev pub CheckOfVersion : Image → TableOrder → Stage → Option Manifest → Type 0
CheckOfVersion image order at None = at ≡ stage.End
CheckOfVersion image order at (Some m) = IsLookedAt image m order at

-- a check of what this image holds
abbrev pub IsCheckOf : Image → Check → Type 0
IsCheckOf image c = CheckOfVersion image c.order c.stage c.version

-- the row that is looked at next
abbrev pub row_at_hand : Check → Option Row
row_at_hand c = option_and_then (λ (m : Manifest). slice_get m.version.rows c.order.rows) c.version

-- ---- how far it is

-- a given number of parts are not looked at yet
abbrev pub parts_behind : Stage → ℕ
parts_behind stage.Rows = 3
parts_behind stage.Ranges = 2
parts_behind stage.Log = 1
parts_behind stage.End = 0

abbrev pub rows_of : Option Manifest → ℕ
rows_of None = 0
rows_of (Some m) = length m.version.rows

abbrev pub parts_left : Check → ℕ
parts_left c = (rows_of c.version - c.order.rows) + parts_behind c.stage

-- lower with each finding that is given, and with each part that is looked at
abbrev pub steps_left : Check → ℕ
steps_left c = 2 ^ 64 * parts_left c + length (waiting c)
