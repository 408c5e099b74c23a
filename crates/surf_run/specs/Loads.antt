-- What a load makes of the state of a store, and how its run ends.
use Rattle.std.specs.Prelude.{◌≡◌, ◌⊎◌, ◌<◌, ◌≤◌, ◌+◌, ◌*◌, ◌++◌, ℕ, List, [], ◌∷◌, length, fold, Option, Some, None}
use Rattle.block_model.specs.Pages.{page_bytes}
use Rattle.disk_trait.specs.World.{Image, World}
use Rattle.entry_model.specs.Entries.{Entry, changed}
use Rattle.image_model.specs.Stands.{StandsForMap}
use Rattle.line_model.specs.Replies.{Device, Done, Full, LastEpoch, LongKey, LongValue, ManyTables, Memory, Reply, text_of}
use Rattle.line_model.specs.Requests.{Del, Put, Request, Seek}
use Rattle.lines_in.specs.Causes.{WritesWithin}
use Rattle.lines_in.specs.Unserved.{LastLine}
use Rattle.lines_in.specs.Statuses.{done_status, device_status, damaged_status, output_status, memory_status}
use Rattle.load_gen.specs.Generator.{next_number, number_after, step_of}
use Rattle.load_gen.specs.Summary.{summary_of, summary_text}
use Rattle.map_model.specs.SortedMap.{Bytes}
use Rattle.outside.specs.During.{During}
use Rattle.state_model.specs.Causes.{ReadFailed, Why}
use Rattle.state_model.specs.Script.{AtDevice, Between, Onward, Over}
use Rattle.state_model.specs.State.{State}
use Rattle.state_model.specs.Steps.{Reads, Step, answer}
use Rattle.state_model.specs.View.{state_map}
use Rattle.store_core.specs.Answers.{HasCause}
use Rattle.surf_run.specs.Crash.{EachImageStandsFor, HasMap}
use Rattle.surf_run.specs.Kind.{Kind}
use Rattle.surf_run.specs.Open.{OpenMoves}
use Rattle.table_model.specs.Tables.{FilterBytes}

-- ---- one step

-- the request by which an entry is written
abbrev pub change_to : Bytes → Option Bytes → Request
change_to key (Some value) = Put key value
change_to key None = Del key

abbrev pub change_of : Entry → Request
change_of entry = change_to entry.key entry.value

-- the step after the first n of a seed
abbrev pub step_behind : ℕ → ℕ → Entry
step_behind seed n = step_of (next_number (number_after seed n))

-- refused for lack of room, or by a limit
abbrev pub IsPassedOver : Reply → Type 0
IsPassedOver (LongKey size) = Unit {0}
IsPassedOver (LongValue size) = Unit {0}
IsPassedOver ManyTables = Unit {0}
IsPassedOver LastEpoch = Unit {0}
IsPassedOver (Full need gap) = Unit {0}
IsPassedOver reply = ⊥

-- A step is made of a state and gets this reply; after it and its merge slice, which ends nothing, is the other state.
pub record StepMade (Cause : Why → Type 0) (filter_bytes : FilterBytes) (step : Entry) (reply : Reply) (before after : State) : Type 0 where
  pub mid : State
  pub answered : Step Cause filter_bytes before (change_of step) reply mid
  pub between : Between Cause filter_bytes (change_of step) mid Onward after

-- ---- steps

-- The first n steps of a seed were made of a state, one after the other: these were done, a given number of others were refused and passed
-- over, and this state is after them.
pub data Loaded (Cause : Why → Type 0) (filter_bytes : FilterBytes) (start : State) (seed : ℕ) : ℕ → List Entry → ℕ → State → Type 0 where
  none : Loaded Cause filter_bytes start seed 0 [] 0 start
  done : (n : ℕ) (kept : List Entry) (refused : ℕ) (before after : State) → Loaded Cause filter_bytes start seed n kept refused before
      → StepMade Cause filter_bytes (step_behind seed n) Done before after
      → Loaded Cause filter_bytes start seed (n + 1) (kept ++ (step_behind seed n ∷ [])) refused after
  passed_over : (n : ℕ) (kept : List Entry) (refused : ℕ) (before after : State) (reply : Reply) → Loaded Cause filter_bytes start seed n kept refused before
      → StepMade Cause filter_bytes (step_behind seed n) reply before after → IsPassedOver reply
      → Loaded Cause filter_bytes start seed (n + 1) kept (refused + 1) after

-- the image stands for the map that some entries make of that of a state
abbrev pub MapAfterSteps : Kind → State → List Entry → Image → Type 0
MapAfterSteps kind start kept image = StandsForMap kind.spelling (fold changed (state_map start) kept) image

-- the image stands for the map that some first of these steps make of that of a state
abbrev pub HasFirstSteps : Kind → State → List Entry → Image → Type 0
HasFirstSteps kind start kept image = (first : List Entry) × (later : List Entry) × (kept ≡ first ++ later) × MapAfterSteps kind start first image

-- Of the steps that were made these were kept: the image has the map of some first of them; or, where the device failed in a next
-- step, as the last line of this status tells, the one of that step's answer.
abbrev pub CrashOfLoad : Kind → State → ℕ → ℕ → ℕ → List Entry → State → ℕ → Image → Type 0
CrashOfLoad kind start seed count made kept now meant image =
    HasFirstSteps kind start kept image ⊎ ((meant ≡ device_status) × (made < count) × HasMap kind (answer kind.filter_bytes now (change_of (step_behind seed made))).1 image)

-- The first n steps were made of a state: these were kept, a given number of others refused, and this state is after them, whose map is the
-- one that the kept ones make.
pub record StepsMade (Cause : Why → Type 0) (kind : Kind) (start : State) (seed n refused : ℕ) (kept : List Entry) (now : State) : Type 0 where
  pub loaded : Loaded Cause kind.filter_bytes start seed n kept refused now
  pub map : state_map now ≡ fold changed (state_map start) kept
  pub number : length kept + refused ≡ n

-- ---- where the device fails

-- In the change of a step, and `device` is said; or in the merge slice after it, and nothing is.
pub data FailsAt (Cause : Why → Type 0) (filter_bytes : FilterBytes) (step : Entry) (before : State) : Bytes → Type 0 where
  in_change : (after : State) → Step Cause filter_bytes before (change_of step) Device after → FailsAt Cause filter_bytes step before (text_of Device)
  in_slice : (reply : Reply) (mid after : State) → Step Cause filter_bytes before (change_of step) reply mid → (reply ≡ Done) ⊎ IsPassedOver reply
      → Between Cause filter_bytes (change_of step) mid (Over AtDevice) after → FailsAt Cause filter_bytes step before []

-- It failed the next step; or, after all of them, a read of the walk over the map, which reads where there are tables: `device` is said.
abbrev pub FailsBehind : Kind → ℕ → ℕ → ℕ → State → World → World → Bytes → Type 0
FailsBehind kind seed count made now old new text =
    ((made < count) × FailsAt (HasCause old new) kind.filter_bytes (step_behind seed made) now text)
    ⊎ ((made ≡ count) × HasCause old new ReadFailed × Reads now (Seek [] None) × (text ≡ text_of Device))

-- ---- the run

-- Its last line, after the steps that were made, a given number of them refused: the summary of the map, where all were made; `memory`; or
-- `device`, but none where the device failed in a merge slice. In the first two cases each image that a crash may leave now stands for
-- the state after them: so the next run begins with it.
abbrev pub IsLoadText : Kind → ℕ → ℕ → ℕ → ℕ → State → World → World → ℕ → Bytes → Type 0
IsLoadText kind seed count made refused now old new status text =
    ((status ≡ done_status) × (made ≡ count) × EachImageStandsFor kind now new × (text ≡ summary_text count refused (summary_of (state_map now))))
    ⊎ ((status ≡ memory_status) × EachImageStandsFor kind now new × (text ≡ text_of Memory))
    ⊎ ((status ≡ device_status) × FailsBehind kind seed count made now old new text)

-- A load of a given number of steps from a state: the steps that were made, one history; its last line, and that nothing is taken; at each
-- moment a crash leaves the map after some first of them; and nothing is written after the pages of the store.
pub record LoadEnds (kind : Kind) (status : ℕ) (start : State) (seed count : ℕ) (old new : World) : Type 0 where
  pub made : ℕ
  pub kept : List Entry
  pub refused : ℕ
  pub now : State
  pub steps : StepsMade (HasCause old new) kind start seed made refused kept now
  pub within : made ≤ count
  pub line : LastLine (IsLoadText kind seed count made refused now old new) status old new
  pub input : new.beside.to_take ≡ old.beside.to_take
  pub crash : During (λ said image. CrashOfLoad kind start seed count made kept now line.0 image) old new
  pub writes : WritesWithin (page_bytes * start.pages) old new

-- the statuses of a run of it that was begun
abbrev pub IsLoading : ℕ → Type 0
IsLoading status = (status ≡ done_status) ⊎ (status ≡ device_status) ⊎ (status ≡ damaged_status) ⊎ (status ≡ output_status) ⊎ (status ≡ memory_status)

-- The store was opened, with nothing written, taken or said by then; and steps were made from this state on.
pub record Loads (kind : Kind) (status : ℕ) (start : State) (seed count : ℕ) (old opened new : World) : Type 0 where
  pub opens : OpenMoves old opened
  pub ends : LoadEnds kind status start seed count opened new
