-- A merge that runs, as it is in memory, and what it still makes.
use Rattle.std.specs.Prelude.{◌≡◌, ◌≤◌, ◌+◌, ◌-◌, ℕ, zero, suc, nat_le, nat_lt, Bool, true, false, not, if◌then◌else◌, List, [], ◌∷◌, ◌++◌, length, map, Option, Some, None}
use Rattle.std.specs.List.{AllByRecursion, list_any}
use Rattle.block_model.specs.Order.{Follow, is_any}
use Rattle.block_model.specs.Pages.{data_pages}
use Rattle.byte_fields.specs.declared.parts.Row.{Row}
use Rattle.disk_trait.specs.Image.{Image}
use Rattle.entry_model.specs.Entries.{Entry, IsEntry, keys_of}
use Rattle.filter_api.specs.Ranges.{InRange}
use Rattle.filter_api.specs.declared.settings.Settings.{Settings}
use Rattle.key_base.specs.Limits.{max_level, merge_data_pages}
use Rattle.level_merge.specs.Plans.{PlanByNumbers}
use Rattle.merge_rows.specs.Merges.{Merge, merge_from, rows_left}
use Rattle.merge_rows.specs.Reads.{blocks_left}
use Rattle.merge_rows.specs.Rows.{KeyFloor, clears}
use Rattle.state_model.specs.Merges.{lasting, outputs_of, split_output}
use Rattle.table_file.specs.Building.{Built}
use Rattle.table_file.specs.Opened.{Opened}

-- Its rows, the settings and the level of its outputs, whether tombstones are left out, how many outputs may come beside the one
-- that is built, the entries of that one, the rows of all others in their order, and those of them that are written.
pub record JobValue : Type 0 where
  pub merge : Merge
  pub settings : Settings
  pub output : ℕ
  pub drops : Bool
  pub beside : ℕ
  pub built : List Entry
  pub outputs : List Row
  pub made : List Opened

-- the merge of the tables of some numbers and of a memory table, where one is given, into tables of a level, with nothing done
abbrev pub merge_of : List ℕ → Option (List Entry) → ℕ → Bool → Settings → List Opened → JobValue
merge_of which memory output drops settings tables = record {
  merge = merge_from which tables memory [] false;
  settings = settings;
  output = output;
  drops = drops;
  beside = length which - 1;
  built = [];
  outputs = [];
  made = [];
}

-- that of a plan among some tables: tombstones are left out where no table lies deeper
abbrev pub begun : PlanByNumbers → Settings → List Opened → JobValue
begun p settings tables = merge_of p.inputs None p.output (not (list_any (λ (t : Opened). nat_lt p.output t.row.level) tables)) settings tables

-- the numbers of a given number of tables, the newest first
abbrev pub all_numbers : ℕ → List ℕ
all_numbers zero = []
all_numbers (suc many) = many ∷ all_numbers many

-- that of a memory table and all tables, into the last level
abbrev pub compaction : List Entry → Settings → List Opened → JobValue
compaction memory settings tables = merge_of (all_numbers (length tables)) (Some memory) max_level true settings tables

-- the keys that are still to come are above those of some entries
abbrev pub AreBelow : KeyFloor → List Entry → Type 0
AreBelow floor entries = (e : Entry) → clears floor e.key ≡ true → Follow is_any (keys_of (entries ++ e ∷ []))

-- an output that is built has entries with rising keys, and each row that is still to come may be added to it
pub record IsBuilding (floor : KeyFloor) (built : List Entry) : Type 0 where
  pub each : AllByRecursion IsEntry built
  pub rising : Follow is_any (keys_of built)
  pub below : AreBelow floor built

-- What is so of each merge: what is built has its settings and no range, its settings and its level are in range, and its rows are
-- the newest entries with their tombstones.
pub record IsMerging (m : JobValue) (built : Built) : Type 0 where
  pub same : built.settings ≡ m.settings
  pub no_range : built.ranges ≡ []
  pub range : InRange m.settings
  pub level : (1 ≤ m.output) × (m.output ≤ max_level)
  pub whole : m.merge.drops ≡ false
  pub building : IsBuilding m.merge.floor m.built

-- all of its outputs are written
abbrev pub AreAllWritten : JobValue → Type 0
AreAllWritten m = m.outputs ≡ map (λ (t : Opened). t.row) m.made

-- ---- what it still makes

-- an output that is built is full where it has the data pages of an output, and another one may come
abbrev pub is_full : ℕ → List Entry → Bool
is_full zero built = false
is_full (suc beside) built = nat_le merge_data_pages (data_pages built)

-- the outputs from the one that is built on, of its entries so far and those to come
abbrev pub outputs_with : ℕ → List Entry → List Entry → List (List Entry)
outputs_with zero built later = outputs_of zero (built ++ later)
outputs_with (suc beside) built [] = outputs_of zero built
outputs_with (suc beside) built (entry ∷ later) =
    let split = split_output built (entry ∷ later) in
    if nat_le merge_data_pages (data_pages built) then built ∷ outputs_of beside (entry ∷ later) else split.0 ∷ outputs_of beside split.1

-- so with the rows that are left on a device
abbrev pub outputs_left : JobValue → List Opened → Image → List (List Entry)
outputs_left m tables image = outputs_with m.beside m.built (lasting m.drops (rows_left m.merge tables image))

-- the blocks that are left to read, and the outputs that may still come beside the one that is built
abbrev pub work_left : List Opened → JobValue → ℕ
work_left tables m = blocks_left tables m.merge.walks + m.beside

-- the row at hand, if there is one
abbrev pub at_hand : Option Entry → List Entry
at_hand None = []
at_hand (Some entry) = entry ∷ []
