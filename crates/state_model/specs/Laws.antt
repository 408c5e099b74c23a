-- Laws of the state: which map it is, and what each change leaves of it.
use Rattle.std.specs.Prelude.{◌≡◌, ◌⊎◌, ◌<◌, ◌≤◌, Bool, true, false, if◌then◌else◌, List, [], ◌∷◌, ◌++◌, length, flat_map, Some, Ok}
use Rattle.std.specs.List.{AllByRecursion, AllPairs}
use Rattle.key_base.specs.Limits.{max_level, merge_data_pages}
use Rattle.map_model.specs.SortedMap.{Bytes, Map, get, put, del, Rises}
use Rattle.entry_model.specs.Entries.{Entry, live}
use Rattle.range_model.specs.Sources.{Change, IsSource, Source, first_said}
use Rattle.range_model.specs.ChangedMaps.{map_changed_by}
use Rattle.block_model.specs.Pages.{data_pages}
use Rattle.state_model.specs.State.{State, Job}
use Rattle.table_model.specs.Tables.{FilterBytes, Table}
use Rattle.state_model.specs.View.{view, sources_of, state_map}
use Rattle.state_model.specs.Merges.{Plan, choose, split_output, planned, lasting_of, is_deepest, merged_of}
use Rattle.state_model.specs.Changes.{flushed, written, compacted}
use Rattle.state_model.specs.Sound.{IsSound, IsSoundTable, StandsBefore, IsJob}
use Rattle.state_model.specs.Tends.{IsDone, installed}
use Rattle.line_model.specs.Requests.{Request, Put, Del}
use Rattle.line_model.specs.Replies.{Reply, Done}
use Rattle.state_model.specs.Steps.{answer}

-- whether a line was answered as done
abbrev pub is_done : Reply → Bool
is_done Done = true
is_done reply = false

-- the map after a line: that of the put or del where it was done, else the one before
abbrev pub map_behind : Request → Reply → Map → Map
map_behind (Put key value) reply map = if is_done reply then put map key value else map
map_behind (Del key) reply map = if is_done reply then del map key else map
map_behind request reply map = map

-- the map of a sound state has at each key what its view of the key says, and its keys rise
pub record ViewLaws : Type 0 where
  pub says : (filter_bytes : FilterBytes) (s : State) (key : Bytes) → IsSound filter_bytes s → get (state_map s) key ≡ live (view s key)
  pub rises : (s : State) → Rises (state_map s)

-- A flush and a compaction that are done keep the map. A change that is written, with a flush before it or without, is made
-- of the map and no other. So the map changes by the lines that are answered as done, and by no other.
pub record ChangeLaws : Type 0 where
  pub flush : (filter_bytes : FilterBytes) (s t : State) → flushed filter_bytes s ≡ Ok t → state_map t ≡ state_map s
  pub write :
      (filter_bytes : FilterBytes) (s t : State) (change : Change) → written filter_bytes s change ≡ Ok t
      → state_map t ≡ map_changed_by (state_map s) change
  pub compaction : (filter_bytes : FilterBytes) (s t : State) → compacted filter_bytes s ≡ Ok t → state_map t ≡ state_map s
  pub lines :
      (filter_bytes : FilterBytes) (s : State) (request : Request)
      → state_map (answer filter_bytes s request).1 ≡ map_behind request (answer filter_bytes s request).0 (state_map s)

-- An install keeps the map: the outputs of a job that is done, in the place of its inputs, among the tables of a sound state.
pub record InstallLaws : Type 0 where
  pub install :
      (filter_bytes : FilterBytes) (s : State) (job : Job) → IsSound filter_bytes s → IsJob filter_bytes s.settings s.tables job
      → IsDone s.tables job → state_map (installed s job) ≡ state_map s

-- What a merge writes says of each key what its inputs say, but that a tombstone may be gone where no table lies deeper.
-- Its outputs, one after the other, have the entries that last; each is sound, none is empty, and they are no more than the
-- inputs.
pub record MergeLaws : Type 0 where
  pub says :
      (tables : List Table) (plan : Plan) (key : Bytes) → AllByRecursion IsSoundTable plan.inputs
      → live (first_said (planned tables plan) key) ≡ live (first_said (sources_of plan.inputs) key)
  pub tombstones :
      (tables : List Table) (plan : Plan) (key : Bytes) → AllByRecursion IsSoundTable plan.inputs → is_deepest tables plan.output ≡ false
      → first_said (planned tables plan) key ≡ first_said (sources_of plan.inputs) key
  pub whole :
      (tables : List Table) (plan : Plan)
      → flat_map (λ (output : Source). output.entries) (planned tables plan) ≡ (lasting_of (is_deepest tables plan.output) (merged_of plan.inputs)).entries
  pub some : (tables : List Table) (plan : Plan) → AllByRecursion (λ (output : Source). 1 ≤ length output.entries) (planned tables plan)
  pub sound : (tables : List Table) (plan : Plan) → AllByRecursion IsSource (planned tables plan)
  pub few : (tables : List Table) (plan : Plan) → 1 ≤ length plan.inputs → length (planned tables plan) ≤ length plan.inputs

-- some tables are a part of all, in their order
abbrev pub AreSomeOf : List Table → List Table → Type 0
AreSomeOf [] all = Unit {0}
AreSomeOf (t ∷ more) [] = ⊥
AreSomeOf (t ∷ more) (u ∷ all) = ((t ≡ u) × AreSomeOf more all) ⊎ AreSomeOf (t ∷ more) all

-- What is chosen is not empty, and becomes tables of a level from 1 to the last. Of tables in their order it is a part in their
-- order, and so is what a job merges, also after later flushes.
pub record ChoiceLaws : Type 0 where
  pub some : (tables : List Table) (plan : Plan) → choose tables ≡ Some plan → 1 ≤ length plan.inputs
  pub output : (tables : List Table) (plan : Plan) → choose tables ≡ Some plan → (1 ≤ plan.output) × (plan.output ≤ max_level)
  pub part : (tables : List Table) (plan : Plan) → AllPairs StandsBefore tables → choose tables ≡ Some plan → AreSomeOf plan.inputs tables
  pub job_part :
      (filter_bytes : FilterBytes) (s : State) (job : Job) → IsSound filter_bytes s → s.job ≡ Some job
      → AreSomeOf job.inputs s.tables

-- An output that others follow has the data pages at which it is closed, or more, and fewer without its last entry.
pub record OutputLaws : Type 0 where
  pub full : (entries : List Entry) → 1 ≤ length (split_output [] entries).1 → merge_data_pages ≤ data_pages (split_output [] entries).0
  pub first : (entries before : List Entry) (last : Entry) → (split_output [] entries).0 ≡ before ++ (last ∷ []) → data_pages before < merge_data_pages
