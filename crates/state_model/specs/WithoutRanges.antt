-- What the words of a state say where its log sets entries and no table has a range.
use Rattle.std.specs.Prelude.{◌≡◌, ℕ, not, ◌&&◌, List, [], ◌∷◌, ◌++◌, filter, map, Option, Some, None, Ok}
use Rattle.std.specs.List.{AllByRecursion}
use Rattle.std.specs.Option.{option_or}
use Rattle.key_base.specs.ByteOrder.{Bytes, is_before}
use Rattle.entry_model.specs.Entries.{Entry, filled, gap, map_of}
use Rattle.entry_model.specs.Newest.{lookup, newest_entries}
use Rattle.range_model.specs.Sources.{Sets, alone, first_said}
use Rattle.range_model.specs.Hiding.{oldest_entries}
use Rattle.extent_model.specs.Extents.{Extent}
use Rattle.filter_api.specs.declared.settings.Settings.{Settings}
use Rattle.table_model.specs.Tables.{FilterBytes, Table}
use Rattle.state_model.specs.State.{Job, State}
use Rattle.state_model.specs.Logs.{filled_by, gap_after}
use Rattle.state_model.specs.View.{changes_of, in_memory, memory, sources_of, state_map, oldest_first, view}
use Rattle.state_model.specs.Merges.{Plan, greatest_key, greatest_of, has_value, is_deepest, lasting, least_key, least_of, reaches_into, merged_of, outputs_for, placed, planned}
use Rattle.state_model.specs.Sound.{IsSound}
use Rattle.state_model.specs.Tends.{installed_tables}
use Rattle.state_model.specs.Changes.{compacted_outputs, live_entries}

-- the table has no range
abbrev pub HasNoRange : Table → Type 0
HasNoRange t = t.ranges ≡ []

-- the entries of tables, the oldest first
abbrev pub table_entries : List Table → List Entry
table_entries tables = oldest_entries (sources_of tables)

-- what the first of some lists of entries that has the key says of it
abbrev pub first_found : List (List Entry) → Bytes → Option (Option Bytes)
first_found [] key = None
first_found (entries ∷ older) key = option_or (lookup entries key) (first_found older key)

-- The log sets these entries, and no table has a range.
pub record HasOnlyEntries (s : State) (entries : List Entry) : Type 0 where
  pub log : s.log ≡ map Sets entries
  pub tables : AllByRecursion HasNoRange s.tables

-- Then memory and merges are the newest entries, outputs are entries alone, and tables meet by their keys. A key is looked for
-- in entries, and the map is that of all entries. The log is filled by its entries. What is placed of entries has no range, and
-- neither have the tables that an install leaves.
pub record WithoutRanges : Type 0 where
  pub newest : (s : State) (entries : List Entry) → HasOnlyEntries s entries → in_memory s ≡ alone (newest_entries entries)
  pub changes : (tables : List Table) → AllByRecursion HasNoRange tables → oldest_first tables ≡ map Sets (table_entries tables)
  pub merged : (tables : List Table) → AllByRecursion HasNoRange tables → merged_of tables ≡ alone (newest_entries (table_entries tables))
  pub outputs :
      (tables : List Table) (plan : Plan) → AllByRecursion HasNoRange plan.inputs
      → planned tables plan
      ≡ map alone (outputs_for plan.inputs (lasting (is_deepest tables plan.output) (newest_entries (table_entries plan.inputs))))
  pub live :
      (s : State) (entries : List Entry) → HasOnlyEntries s entries
      → live_entries s ≡ filter (λ (e : Entry). has_value e.value) (newest_entries (table_entries s.tables ++ entries))
  pub compacted : (s : State) → compacted_outputs s ≡ map alone (outputs_for s.tables (live_entries s))
  pub found : (tables : List Table) (key : Bytes) → AllByRecursion HasNoRange tables → first_said (sources_of tables) key ≡ first_found (map (λ (t : Table). t.entries) tables) key
  pub viewed :
      (s : State) (entries : List Entry) (key : Bytes) → HasOnlyEntries s entries
      → view s key ≡ first_found (memory s ∷ map (λ (t : Table). t.entries) s.tables) key
  pub all : (s : State) (entries : List Entry) → HasOnlyEntries s entries → changes_of s ≡ map Sets (table_entries s.tables ++ entries)
  pub map_is : (s : State) (entries : List Entry) → HasOnlyEntries s entries → state_map s ≡ map_of (table_entries s.tables ++ entries)
  pub meeting :
      (tables : List Table) (t : Table) → AllByRecursion HasNoRange tables → HasNoRange t
      → reaches_into tables t ≡ (not (is_before (greatest_key t) (least_of tables)) && not (is_before (greatest_of tables) (least_key t)))
  pub filled_so : (entries : List Entry) → filled_by (map Sets entries) ≡ filled entries
  pub gap_so : (entries : List Entry) → gap_after (map Sets entries) ≡ gap entries
  pub placed_so :
      (filter_bytes : FilterBytes) (settings : Settings) (pages : ℕ) (taken : List Extent) (level : ℕ) (outputs : List (List Entry)) (tables : List Table)
      → placed filter_bytes settings pages taken level (map alone outputs) ≡ Ok tables → AllByRecursion HasNoRange tables
  pub installed_so :
      (filter_bytes : FilterBytes) (s : State) (job : Job) → IsSound filter_bytes s → s.job ≡ Some job → AllByRecursion HasNoRange s.tables
      → AllByRecursion HasNoRange (installed_tables s.tables job)
