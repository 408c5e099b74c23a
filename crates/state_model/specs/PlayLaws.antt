-- Laws of a run that computes: it is one of those that the relation allows.
use Rattle.std.specs.Prelude.{◌≡◌, ◌≢◌, ◌≤◌, ◌+◌, ℕ, Bool, true, false, List, [], ◌∷◌, ◌++◌, length, map, flat_map, None}
use Rattle.map_model.specs.SortedMap.{Bytes}
use Rattle.state_model.specs.State.{State}
use Rattle.table_model.specs.Tables.{FilterBytes}
use Rattle.state_model.specs.Causes.{Why}
use Rattle.line_model.specs.Requests.{Request, Put, Del, request_of}
use Rattle.line_model.specs.Replies.{Reply, text_of}
use Rattle.state_model.specs.Tends.{Tend, Tended}
use Rattle.state_model.specs.Steps.{answer}
use Rattle.state_model.specs.Play.{merged, sliced, tended, played}
use Rattle.state_model.specs.Script.{Ending, ToLast, Turn, Onward, turn_of, turn_of_slice, Between, ScriptEndsAt, Script, AnsweredLines, LastAnswered, Answers}

-- no cause for anything: memory lasts, the device holds, and nothing is damaged
abbrev pub Never : Why → Type 0
Never why = ⊥

-- any state serves as a reply has been said
abbrev pub AnyState : ℕ → State → Type 0
AnyState said s = Unit {0}

-- the text of the replies to some lines
abbrev pub played_text : FilterBytes → State → List Bytes → Bytes
played_text filter_bytes s lines = flat_map text_of (played filter_bytes s (map request_of lines)).0

-- A whole merge of a state without a job is one merge slice, which ends no script. After a line, and after that merge slice, no job
-- runs. So lines that are played from such a state are a script. All of it is so without a cause, so under any.
pub record PlayLaws : Type 0 where
  pub merge_slice :
      (filter_bytes : FilterBytes) (s : State) → s.job ≡ None → (t : Tended)
      × Tend Never filter_bytes s t (merged filter_bytes s) × (Onward ≡ turn_of_slice t)
  pub no_job :
      (filter_bytes : FilterBytes) (s : State) (line : Bytes) → s.job ≡ None
      → ((answer filter_bytes s (request_of line)).1.job ≡ None)
      × ((tended filter_bytes (request_of line) (answer filter_bytes s (request_of line)).1).job ≡ None)
  pub script :
      (filter_bytes : FilterBytes) (s : State) (said : ℕ) (lines : List Bytes) → s.job ≡ None
      → (ending : Ending) × Script Never filter_bytes AnyState said s lines (played_text filter_bytes s lines) ending

-- What is computed of a merge slice of one block or more is one that ends no script, also while a job runs.
abbrev pub SlicesAreAllowed : Type 0
SlicesAreAllowed =
    (filter_bytes : FilterBytes) (blocks : ℕ) (s : State) → 1 ≤ blocks
    → (t : Tended) × Tend Never filter_bytes s t (sliced filter_bytes blocks s) × (Onward ≡ turn_of_slice t)

-- the causes that are allowed, and the states that serve, by tests
abbrev pub Allowed : (Why → Bool) → Why → Type 0
Allowed test why = test why ≡ true

abbrev pub Answering : (ℕ → State → Bool) → ℕ → State → Type 0
Answering test said s = test said s ≡ true

-- First lines that went on, and a script from the state after them with as much said as their text is long, are a script.
abbrev pub ScriptsGoOn : Type 0
ScriptsGoOn =
    (causes : Why → Bool) (filter_bytes : FilterBytes) (states : ℕ → State → Bool) (said : ℕ) (s after : State) (first lines : List Bytes)
    (text rest : Bytes) (ending : Ending) → AnsweredLines (Allowed causes) filter_bytes (Answering states) said s first text after
    → Script (Allowed causes) filter_bytes (Answering states) (said + length text) after lines rest ending
    → Script (Allowed causes) filter_bytes (Answering states) said s (first ++ lines) (text ++ rest) ending

-- Lines that were answered, the last with a reply that goes on, have gone on after their merge slice, where it goes on too.
abbrev pub AnswersGoOn : Type 0
AnswersGoOn =
    (causes : Why → Bool) (filter_bytes : FilterBytes) (states : ℕ → State → Bool) (said : ℕ) (s after next : State) (first : List Bytes)
    (last text : Bytes) (reply : Reply) → LastAnswered (Allowed causes) filter_bytes (Answering states) said s first last text reply after
    → turn_of reply ≡ Onward → Between (Allowed causes) filter_bytes (request_of last) after Onward next
    → AnsweredLines (Allowed causes) filter_bytes (Answering states) said s (first ++ (last ∷ [])) text next

-- A script that ends before its last line, at a quit, a fault or damage, has answered some first lines, with all that it
-- says, and ends at the last of these; what follows them is not looked at.
pub record ScriptsThatEnd : Type 0 where
  pub last :
      (causes : Why → Bool) (filter_bytes : FilterBytes) (states : ℕ → State → Bool) (said : ℕ) (s : State) (lines : List Bytes) (text : Bytes)
      (ending : Ending) → Script (Allowed causes) filter_bytes (Answering states) said s lines text ending → ending ≢ ToLast
      → (first : List Bytes) × (last : Bytes) × (later : List Bytes) × (reply : Reply) × (after : State) × (lines ≡ first ++ (last ∷ later))
      × LastAnswered (Allowed causes) filter_bytes (Answering states) said s first last text reply after
      × ScriptEndsAt (Allowed causes) filter_bytes last reply after ending
  pub answers :
      (causes : Why → Bool) (filter_bytes : FilterBytes) (states : ℕ → State → Bool) (said : ℕ) (s : State) (lines : List Bytes) (text : Bytes)
      (ending : Ending) → Script (Allowed causes) filter_bytes (Answering states) said s lines text ending → ending ≢ ToLast
      → (done : List Bytes) × (later : List Bytes) × (after : State) × (lines ≡ done ++ later)
      × Answers (Allowed causes) filter_bytes (Answering states) said s done text after

-- A script to its last line has answered all lines.
abbrev pub ScriptsToLast : Type 0
ScriptsToLast =
    (causes : Why → Bool) (filter_bytes : FilterBytes) (states : ℕ → State → Bool) (said : ℕ) (s : State) (lines : List Bytes) (text : Bytes)
    → Script (Allowed causes) filter_bytes (Answering states) said s lines text ToLast
    → (after : State) × AnsweredLines (Allowed causes) filter_bytes (Answering states) said s lines text after

-- the requests after which a merge slice comes
abbrev pub has_slice : Request → Bool
has_slice (Put key value) = true
has_slice (Del key) = true
has_slice request = false

-- After the others nothing comes: the state stays, and the script goes on.
abbrev pub OthersHaveNoSlice : Type 0
OthersHaveNoSlice =
    (causes : Why → Bool) (filter_bytes : FilterBytes) (request : Request) (s after : State) (turn : Turn) → has_slice request ≡ false
    → Between (Allowed causes) filter_bytes request s turn after → (turn ≡ Onward) × (after ≡ s)
