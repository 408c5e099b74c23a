-- What each part of a load promises.
use Rattle.std.specs.Prelude.{◌≡◌, ◌⊎◌, ◌≤◌, ◌+◌, ◌*◌, ℕ, Bool, true, false, List, Result, IfOk, IfErr, MatchResult, IsTrue}
use Rattle.block_model.specs.Pages.{page_bytes}
use Rattle.disk_trait.specs.World.{Image, World}
use Rattle.entry_model.specs.Entries.{Entry, changed}
use Rattle.line_model.specs.Replies.{Done, Memory, Reply, text_of}
use Rattle.lines_in.specs.Causes.{EndCause, LineMoves, NoFall, WritesWithin}
use Rattle.lines_in.specs.Unserved.{LastLine}
use Rattle.lines_in.specs.declared.line_end.LineEnd.TheVariants.{End}
use Rattle.lines_in.specs.Statuses.{device_status, memory_status}
use Rattle.map_model.specs.SortedMap.{Bytes, Map}
use Rattle.outside.specs.During.{During}
use Rattle.state_model.specs.State.{State}
use Rattle.state_model.specs.Steps.{Step}
use Rattle.state_model.specs.View.{state_map}
use Rattle.store_core.specs.Answers.{HasCause}
use Rattle.store_core.specs.StoreValue.{StoreValue}
use Rattle.store_core.specs.Represents.{Represents}
use Rattle.store_core.specs.declared.error.StoreError.{StoreError}
use Rattle.store_core.specs.declared.error.StoreError.TheVariants as error
use Rattle.surf_run.specs.Causes.{MeetsUnsaid, WithinPages}
use Rattle.surf_run.specs.Crash.{EachImageStandsFor, HasMap, HasOldOrNewMap}
use Rattle.surf_run.specs.Kind.{Kind}
use Rattle.surf_run.specs.Loads.{FailsAt, HasFirstSteps, IsPassedOver, StepMade, StepsMade, change_of}

-- ---- one step

-- a refusal that is counted and passed over
abbrev pub is_passed_over : StoreError → Bool
is_passed_over error.Memory = false
is_passed_over (error.Device cause) = false
is_passed_over error.Stopped = false
is_passed_over (error.Limit limit) = true
is_passed_over (error.Full need gap) = true
is_passed_over (error.Damaged damage) = false
is_passed_over error.NotAStore = false
is_passed_over error.AlreadyAStore = false
is_passed_over (error.BadSettings field) = false

-- a step was done, or passed over
abbrev pub IsAnswer : Bool → Reply → Type 0
IsAnswer true reply = reply ≡ Done
IsAnswer false reply = IsPassedOver reply

-- the map before a step, or that of its answer
abbrev pub HasStep : Kind → State → Entry → Image → Type 0
HasStep kind s step image = HasOldOrNewMap kind s (change_of step) image

-- the map after a step
abbrev pub stepped_map : Bool → Map → Entry → Map
stepped_map true map step = changed map step
stepped_map false map step = map

-- The last line of a run that ends in a step: `memory`, with the state as it was, and its map at each moment meanwhile; or that of a
-- device that failed.
abbrev pub IsStepText : Kind → Entry → State → World → World → ℕ → Bytes → Type 0
IsStepText kind step s a b status text =
    ((status ≡ memory_status) × (text ≡ text_of Memory) × EachImageStandsFor kind s b × During (λ said image. HasMap kind s image) a b)
    ⊎ ((status ≡ device_status) × FailsAt (HasCause a b) kind.filter_bytes step s text)

-- The change of a step was made: the store is that of the state after it.
abbrev pub IsChanged : Kind → Entry → State → StoreValue → World → World → Bool → Type 0
IsChanged kind step s store a b done =
    (reply : Reply) × (mid : State) × Step (HasCause a b) kind.filter_bytes s (change_of step) reply mid × IsAnswer done reply × Represents kind.spelling kind.filter_bytes store mid b

-- And so with its merge slice.
abbrev pub IsStepped : Kind → Entry → State → StoreValue → World → World → Bool → Type 0
IsStepped kind step s store a b done =
    (reply : Reply) × (after : State) × StepMade (HasCause a b) kind.filter_bytes step reply s after × IsAnswer done reply × Represents kind.spelling kind.filter_bytes store after b
    × EachImageStandsFor kind after b × (state_map after ≡ stepped_map done (state_map s) step)

-- It was made so, or the run ends and says its last line; at each moment a crash leaves the map before the step or that of its
-- answer; and no more blocks were read than these.
pub record StepEnds (IsMade : Bool → Type 0) (most : ℕ) (kind : Kind) (step : Entry) (result : Result Bool ℕ) (s : State) (a b : World) : Type 0 where
  pub ends : MatchResult result IsMade (λ status. LastLine (IsStepText kind step s a b) status a b)
  pub crash : During (λ said image. HasStep kind s step image) a b
  pub reads : b.seen.reads ≤ a.seen.reads + most
  pub writes : WritesWithin (page_bytes * s.pages) a b

-- why a run ends in a step
abbrev pub StepCause : Type 0 → ℕ → World → World → Type 0
StepCause Told status a b = (status ≡ memory_status) ⊎ EndCause (λ w. Told → MeetsUnsaid a w) (End status) a b

-- What it promises over a running store, with a given number of blocks read: where it was made nothing is said, and the store runs.
pub record MakesStep (IsMade : State → Bool → Type 0) (most : ℕ) (kind : Kind) (tells tells_output : Bool) (step : Entry) (result : Result Bool ℕ) (store new : StoreValue) (a b : World) : Type 0 where
  pub made : (s : State) → IsTrue tells → IsTrue tells_output → Represents kind.spelling kind.filter_bytes store s a → StepEnds (IsMade s) most kind step result s a b
  pub running : IfOk result (λ done. new.stopped ≡ false)
  pub silent : IfOk result (λ done. b.beside ≡ a.beside)
  pub cause : IfErr result (λ status. StepCause (IsTrue tells) status a b)
  pub moves : LineMoves a b
  pub within : WithinPages store new a b

-- ---- all of them

-- Since a first world the first n steps of a seed were made of a state, a given number of them refused, and nothing was said or taken.
pub record LoadInvariant (kind : Kind) (start : State) (seed n refused : ℕ) (store : StoreValue) (first w : World) : Type 0 where
  pub kept : List Entry
  pub now : State
  pub steps : StepsMade (HasCause first w) kind start seed n refused kept now
  pub silent : w.beside ≡ first.beside
  pub history : During (λ said image. HasFirstSteps kind start kept image) first w
  pub tied : Represents kind.spelling kind.filter_bytes store now w
  pub stand : EachImageStandsFor kind now w
  pub counts : NoFall first w
  pub pages : now.pages ≡ start.pages
  pub writes : WritesWithin (page_bytes * start.pages) first w
