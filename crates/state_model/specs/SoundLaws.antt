-- Laws of soundness: a store as it is made is sound, and what is done to a sound state leaves one.
use Rattle.std.specs.Prelude.{◌≡◌, ◌≢◌, ◌≤◌, ◌<◌, ◌+◌, ◌++◌, ℕ, List, [], ◌∷◌, length, map, Option, Some, None, Ok, Err}
use Rattle.std.specs.List.{AllByRecursion, sum_by}
use Rattle.filter_api.specs.declared.settings.Settings.{Settings}
use Rattle.filter_api.specs.Ranges.{InRange}
use Rattle.filter_model.specs.Keys.{IsKeyList}
use Rattle.byte_fields.specs.Spelling.{IsBytes}
use Rattle.key_base.specs.Limits.{first_table_page, log_bytes, max_device_pages, max_ratio, max_tables, min_device_pages}
use Rattle.map_model.specs.SortedMap.{Bytes}
use Rattle.entry_model.specs.Entries.{keys_of}
use Rattle.range_model.specs.Sources.{Change, Source}
use Rattle.state_model.specs.Logs.{IsChange, filled_by}
use Rattle.state_model.specs.State.{State, Job, new_state, without_job}
use Rattle.table_model.specs.Tables.{FilterBytes, Table}
use Rattle.state_model.specs.View.{memory, state_map}
use Rattle.extent_model.specs.Extents.{Extent, AreLaid}
use Rattle.state_model.specs.Taken.{extent_of}
use Rattle.state_model.specs.Merges.{Plan, choose, placed, planned}
use Rattle.state_model.specs.Changes.{flushed, written, compacted}
use Rattle.state_model.specs.Resets.{with_settings, with_pages}
use Rattle.state_model.specs.Causes.{Why}
use Rattle.line_model.specs.Requests.{Request, request_of, Put, Del, Get, Seek, Range, Count, Estimate, Explain}
use Rattle.line_model.specs.Replies.{Reply, ManyTables}
use Rattle.state_model.specs.Steps.{Step}
use Rattle.state_model.specs.Play.{played}
use Rattle.state_model.specs.Script.{Ending, Script, AnsweredLines, Answers}
use Rattle.state_model.specs.PlayLaws.{Never, AnyState}
use Rattle.state_model.specs.Tends.{Runs, Progresses, started, with_job, outstanding, Tended, Worked, Tend}
use Rattle.state_model.specs.Sound.{IsSound, IsSoundTable}

-- Outputs that are placed beside laid extents are laid with them.
abbrev pub PlacedAreLaid : Type 0
PlacedAreLaid =
    (filter_bytes : FilterBytes) (settings : Settings) (pages : ℕ) (extents : List Extent) (level : ℕ) (outputs : List Source) (made : List Table)
    → AllByRecursion (λ (output : Source). 1 ≤ length output.entries) outputs → AreLaid pages extents
    → placed filter_bytes settings pages extents level outputs ≡ Ok made → AreLaid pages (map extent_of made ++ extents)

-- a store as it is made is sound
abbrev pub NewIsSound : Type 0
NewIsSound =
    (filter_bytes : FilterBytes) (settings : Settings) (pages : ℕ) → InRange settings → settings.ratio ≤ max_ratio → min_device_pages ≤ pages
    → pages ≤ max_device_pages → IsSound filter_bytes (new_state settings pages)

-- a flush that is done keeps soundness, whether a job runs or none
abbrev pub FlushKeepsSound : Type 0
FlushKeepsSound =
    (filter_bytes : FilterBytes) (s t : State) → IsSound filter_bytes s → flushed filter_bytes s ≡ Ok t → IsSound filter_bytes t

-- so does a change that is written, logged or flushed over what is in memory
abbrev pub WriteKeepsSound : Type 0
WriteKeepsSound =
    (filter_bytes : FilterBytes) (s t : State) (change : Change) → IsSound filter_bytes s → IsChange change
    → written filter_bytes s change ≡ Ok t → IsSound filter_bytes t

-- and a compaction
abbrev pub CompactionKeepsSound : Type 0
CompactionKeepsSound =
    (filter_bytes : FilterBytes) (s t : State) → IsSound filter_bytes s → compacted filter_bytes s ≡ Ok t
    → IsSound filter_bytes t

-- A job that runs, and goes on, leaves a sound state; and a job may be dropped.
abbrev pub WorkKeepsSound : Type 0
WorkKeepsSound =
    (filter_bytes : FilterBytes) (s : State) (job later : Job) → IsSound filter_bytes s → Runs s job
    → Progresses filter_bytes s job later → IsSound filter_bytes (with_job s later)

abbrev pub DropKeepsSound : Type 0
DropKeepsSound = (filter_bytes : FilterBytes) (s : State) → IsSound filter_bytes s → IsSound filter_bytes (without_job s)

-- Other settings that are in range keep soundness, whatever settings the tables have, and so do more pages up to the most.
abbrev pub SettingsKeepSound : Type 0
SettingsKeepSound =
    (filter_bytes : FilterBytes) (settings : Settings) (s t : State) → InRange settings → settings.ratio ≤ max_ratio
    → IsSound filter_bytes s → with_settings settings s ≡ Ok t → IsSound filter_bytes t

abbrev pub PagesKeepSound : Type 0
PagesKeepSound =
    (filter_bytes : FilterBytes) (pages : ℕ) (s t : State) → s.pages ≤ pages → pages ≤ max_device_pages
    → IsSound filter_bytes s → with_pages pages s ≡ Ok t → IsSound filter_bytes t

-- the one state holds what the other does: the same map, log and tables, and what is kept
pub record HoldsTheSame (s t : State) : Type 0 where
  pub map : state_map t ≡ state_map s
  pub log : t.log ≡ s.log
  pub tables : t.tables ≡ s.tables
  pub kept : t.kept ≡ s.kept

-- Neither changes what the store holds.
abbrev pub ResetsHoldTheSame : Type 0
ResetsHoldTheSame =
    ((settings : Settings) (s t : State) → with_settings settings s ≡ Ok t → HoldsTheSame s t)
    × ((pages : ℕ) (s t : State) → with_pages pages s ≡ Ok t → HoldsTheSame s t)

-- any cause may be
abbrev pub Ever : Why → Type 0
Ever why = Unit {0}

-- Whatever a merge slice is answered, the state after it is sound.
abbrev pub SliceKeepsSound : Type 0
SliceKeepsSound =
    (filter_bytes : FilterBytes) (s after : State) (tended : Tended) → IsSound filter_bytes s
    → Tend Ever filter_bytes s tended after → IsSound filter_bytes after

-- And it is the same map.
abbrev pub SliceKeepsMap : Type 0
SliceKeepsMap =
    (filter_bytes : FilterBytes) (s after : State) (tended : Tended) → IsSound filter_bytes s
    → Tend Ever filter_bytes s tended after → state_map after ≡ state_map s

-- What needs no cause is allowed where any may be.
abbrev pub NeverTends : Type 0
NeverTends =
    (filter_bytes : FilterBytes) (s after : State) (tended : Tended) → Tend Never filter_bytes s tended after
    → Tend Ever filter_bytes s tended after

abbrev pub NeverSteps : Type 0
NeverSteps =
    (filter_bytes : FilterBytes) (s after : State) (request : Request) (reply : Reply)
    → Step Never filter_bytes s request reply after → Step Ever filter_bytes s request reply after

-- what is put or deleted is bytes
abbrev pub AsksOfBytes : Request → Type 0
AsksOfBytes (Put key value) = IsBytes key × IsBytes value
AsksOfBytes (Del key) = IsBytes key
AsksOfBytes request = Unit {0}

-- all keys, values and bounds are bytes
abbrev pub SpeaksBytes : Request → Type 0
SpeaksBytes (Put key value) = IsBytes key × IsBytes value
SpeaksBytes (Del key) = IsBytes key
SpeaksBytes (Get key) = IsBytes key
SpeaksBytes (Seek lo None) = IsBytes lo
SpeaksBytes (Seek lo (Some hi)) = IsBytes lo × IsBytes hi
SpeaksBytes (Range lo hi n) = IsBytes lo × IsBytes hi
SpeaksBytes (Count lo hi) = IsBytes lo × IsBytes hi
SpeaksBytes (Estimate lo hi) = IsBytes lo × IsBytes hi
SpeaksBytes (Explain key) = IsBytes key
SpeaksBytes request = Unit {0}

-- So they are in each line, and then so is what is put or deleted.
abbrev pub LinesAreOfBytes : Type 0
LinesAreOfBytes = (line : Bytes) → SpeaksBytes (request_of line)

abbrev pub SpeakingAsks : Type 0
SpeakingAsks = (request : Request) → SpeaksBytes request → AsksOfBytes request

-- The state after a line is sound too.
abbrev pub LineKeepsSound : Type 0
LineKeepsSound =
    (filter_bytes : FilterBytes) (s after : State) (request : Request) (reply : Reply) → IsSound filter_bytes s
    → AsksOfBytes request → Step Ever filter_bytes s request reply after → IsSound filter_bytes after

-- And so is the state after all lines that are played.
abbrev pub PlayedIsSound : Type 0
PlayedIsSound =
    (filter_bytes : FilterBytes) (s : State) (requests : List Request) → IsSound filter_bytes s
    → AllByRecursion AsksOfBytes requests → s.job ≡ None → IsSound filter_bytes (played filter_bytes s requests).1

-- R, and that the state is sound
abbrev pub WithSound : FilterBytes → (ℕ → State → Type 0) → ℕ → State → Type 0
WithSound filter_bytes R said s = R said s × IsSound filter_bytes s

-- Each state of a script from a sound one is sound, as each reply has been said, and so is the state after some first
-- lines, and after the reply to the line after these.
pub record ScriptsKeepSound : Type 0 where
  pub script :
      (filter_bytes : FilterBytes) (said : ℕ) (s : State) (lines : List Bytes) (text : Bytes) (ending : Ending) → IsSound filter_bytes s
      → Script Ever filter_bytes AnyState said s lines text ending
      → Script Ever filter_bytes (WithSound filter_bytes AnyState) said s lines text ending
  pub first_lines :
      (filter_bytes : FilterBytes) (said : ℕ) (s after : State) (lines : List Bytes) (text : Bytes) → IsSound filter_bytes s
      → AnsweredLines Ever filter_bytes AnyState said s lines text after
      → AnsweredLines Ever filter_bytes (WithSound filter_bytes AnyState) said s lines text after × IsSound filter_bytes after
  pub answered :
      (filter_bytes : FilterBytes) (said : ℕ) (s after : State) (lines : List Bytes) (text : Bytes) → IsSound filter_bytes s
      → Answers Ever filter_bytes AnyState said s lines text after
      → Answers Ever filter_bytes (WithSound filter_bytes AnyState) said s lines text after × IsSound filter_bytes after

-- ---- what is not sound, and what the keys of a table are

-- More tables than the most, a log that fills its area, and a table before the first page of tables are of no sound state. A
-- flush is refused by the most tables and by no fewer.
pub record LimitsAreKept : Type 0 where
  pub tables : (filter_bytes : FilterBytes) (s : State) → max_tables < length s.tables → IsSound filter_bytes s → ⊥
  pub log : (filter_bytes : FilterBytes) (s : State) → log_bytes ≤ filled_by s.log → IsSound filter_bytes s → ⊥
  pub first_page :
      (filter_bytes : FilterBytes) (s : State) (before more : List Table) (t : Table) → s.tables ≡ before ++ (t ∷ more) → t.first_page < first_table_page
      → IsSound filter_bytes s → ⊥
  pub flush_over : (filter_bytes : FilterBytes) (s : State) → max_tables ≤ length s.tables → memory s ≢ [] → flushed filter_bytes s ≡ Err ManyTables
  pub flush_below : (filter_bytes : FilterBytes) (s : State) → length s.tables < max_tables → flushed filter_bytes s ≡ Err ManyTables → ⊥

-- The keys of a sound table are a list of keys, as filters are built of.
abbrev pub KeysAreAList : Type 0
KeysAreAList = (t : Table) → IsSoundTable t → IsKeyList (keys_of t.entries)

-- ---- how many merge slices a job takes

-- the answers Worked that a job may still see: one for each block to read, one for each output to write, one for its install
abbrev pub steps_of : List Table → Option Job → ℕ
steps_of tables None = 0
steps_of tables (Some job) = job.to_read + length (outstanding tables job) + 1

-- A job that begins may see as many as the blocks of its inputs, its outputs and one more.
abbrev pub StepsAtFirst : Type 0
StepsAtFirst =
    (s : State) (plan : Plan)
    → steps_of s.tables (Some (started plan)) ≡ sum_by (λ (t : Table). t.blocks) plan.inputs + length (planned s.tables plan) + 1

-- Each answer Worked leaves fewer than before it.
abbrev pub WorkedLowersSteps : Type 0
WorkedLowersSteps =
    (filter_bytes : FilterBytes) (s after : State) → Tend Ever filter_bytes s Worked after → (job : Job) × Runs s job
    × (steps_of after.tables after.job < steps_of s.tables (Some job))

-- No line leaves more, whatever it is answered.
abbrev pub LinesRaiseNoSteps : Type 0
LinesRaiseNoSteps =
    (filter_bytes : FilterBytes) (s after : State) (request : Request) (reply : Reply) → Step Ever filter_bytes s request reply after
    → steps_of after.tables after.job ≤ steps_of s.tables s.job

-- a line, or a merge slice of the job that runs
pub data Move : Type 0 where
  Line : (request : Request) → Move
  MergeSlice : Move

-- From the one state these moves lead to the other: the lines are answered, also by a fault, and each merge slice is
-- answered as worked.
abbrev pub LeadTo : FilterBytes → List Move → State → State → Type 0
LeadTo filter_bytes [] s t = s ≡ t
LeadTo filter_bytes (Line request ∷ more) s t = (after : State) × (reply : Reply) × Step Ever filter_bytes s request reply after × LeadTo filter_bytes more after t
LeadTo filter_bytes (MergeSlice ∷ more) s t = (after : State) × (job : Job) × (s.job ≡ Some job) × Tend Ever filter_bytes s Worked after × LeadTo filter_bytes more after t

abbrev pub slices_in : List Move → ℕ
slices_in [] = 0
slices_in (Line request ∷ more) = slices_in more
slices_in (MergeSlice ∷ more) = slices_in more + 1

-- A job of b blocks and o outputs sees at most b + o + 1 answers Worked: the first, and with any lines between them those
-- that follow while it runs.
abbrev pub JobEnds : Type 0
JobEnds =
    (filter_bytes : FilterBytes) (s after t : State) (plan : Plan) (moves : List Move) → s.job ≡ None
    → choose s.tables ≡ Some plan → Tend Ever filter_bytes s Worked after
    → LeadTo filter_bytes moves after t
    → 1 + slices_in moves ≤ sum_by (λ (u : Table). u.blocks) plan.inputs + length (planned s.tables plan) + 1
