-- What the lines are answered, one after the other, and what happens between them.
use Rattle.std.specs.Prelude.{◌≡◌, ◌⊎◌, ◌+◌, ℕ, List, [], ◌∷◌, ◌++◌, length}
use Rattle.map_model.specs.SortedMap.{Bytes}
use Rattle.state_model.specs.State.{State}
use Rattle.table_model.specs.Tables.{FilterBytes}
use Rattle.state_model.specs.Causes.{Why}
use Rattle.line_model.specs.Requests.{Request, Put, Del, request_of}
use Rattle.line_model.specs.Replies.{Reply, Pairs, Bye, Device, Damaged, text_of}
use Rattle.state_model.specs.Tends.{Tend, Tended, Refused}
use Rattle.state_model.specs.Steps.{Step}

-- how the lines came to their end: to the last of them, at `quit`, at a fault of the device or at damage
pub data Ending : Type 0 where
  ToLast : Ending
  AtQuit : Ending
  AtDevice : Ending
  AtDamage : Ending

-- what follows a reply: the next lines, or the end of the script
pub data Turn : Type 0 where
  Onward : Turn
  Over : (ending : Ending) → Turn

abbrev pub turn_of : Reply → Turn
turn_of Bye = Over AtQuit
turn_of Device = Over AtDevice
turn_of (Damaged damage) = Over AtDamage
turn_of (Pairs found Device) = Over AtDevice
turn_of (Pairs found (Damaged damage)) = Over AtDamage
turn_of reply = Onward

-- a fault or damage in a merge slice ends the script; lack of memory, of room or of an epoch is left for the next one
abbrev pub turn_of_slice : Tended → Turn
turn_of_slice (Refused why) = turn_of why
turn_of_slice tended = Onward

-- After each `put` and `del`, refused or not, comes one merge slice; after other lines none.
abbrev pub Between : (Why → Type 0) → FilterBytes → Request → State → Turn → State → Type 0
Between Cause filter_bytes (Put key value) s turn after = (tended : Tended) × Tend Cause filter_bytes s tended after × (turn ≡ turn_of_slice tended)
Between Cause filter_bytes (Del key) s turn after = (tended : Tended) × Tend Cause filter_bytes s tended after × (turn ≡ turn_of_slice tended)
Between Cause filter_bytes request s turn after = (turn ≡ Onward) × (after ≡ s)

-- The script's text is said and ended, or goes on.
abbrev pub EndsOr : Turn → Bytes → Ending → Type 0 → Type 0
EndsOr Onward rest ending Next = Next
EndsOr (Over why) rest ending Next = (rest ≡ []) × (ending ≡ why)

-- what holds as the reply has been said, but for a fault or damage
abbrev pub AsSaid : Turn → Type 0 → Type 0
AsSaid (Over AtDevice) Holds = Unit {0}
AsSaid (Over AtDamage) Holds = Unit {0}
AsSaid turn Holds = Holds

-- The lines are answered in order with this text, to the last of them, or to the first reply or merge slice that ends them. As
-- each reply has been said that is no fault, with a given number of bytes said by then, the state has R.
abbrev pub Script : (Why → Type 0) → FilterBytes → (ℕ → State → Type 0) → ℕ → State → List Bytes → Bytes → Ending → Type 0
Script Cause filter_bytes R said s [] text ending = (text ≡ []) × (ending ≡ ToLast)
Script Cause filter_bytes R said s (line ∷ more) text ending =
    (reply : Reply) × (rest : Bytes) × (new : State) × (text ≡ text_of reply ++ rest) × Step Cause filter_bytes s (request_of line) reply new
    × AsSaid (turn_of reply) (R (said + length (text_of reply)) new)
    × EndsOr (turn_of reply) rest ending
    ((turn : Turn) × (after : State) × Between Cause filter_bytes (request_of line) new turn after
    × EndsOr turn rest ending (Script Cause filter_bytes R (said + length (text_of reply)) after more rest ending))

-- ---- some first lines

-- The lines are answered in order with this text, and no reply and no merge slice ends them; after the last of them, and
-- its merge slice, comes this state. As each reply has been said, with a given number of bytes said by then, the state has R.
abbrev pub AnsweredLines : (Why → Type 0) → FilterBytes → (ℕ → State → Type 0) → ℕ → State → List Bytes → Bytes → State → Type 0
AnsweredLines Cause filter_bytes R said s [] text after = (text ≡ []) × (after ≡ s)
AnsweredLines Cause filter_bytes R said s (line ∷ more) text after =
    (reply : Reply) × (rest : Bytes) × (new : State) × (next : State) × (text ≡ text_of reply ++ rest)
    × Step Cause filter_bytes s (request_of line) reply new × (turn_of reply ≡ Onward) × R (said + length (text_of reply)) new
    × Between Cause filter_bytes (request_of line) new Onward next
    × AnsweredLines Cause filter_bytes R (said + length (text_of reply)) next more rest after

-- Some first lines went on, and the one after them was answered, with any reply; this is the text of all these replies.
-- This is the state after the last of them: its merge slice is still to come. As it has been said, the state has R.
pub record LastAnswered (Cause : Why → Type 0) (filter_bytes : FilterBytes) (R : ℕ → State → Type 0) (said : ℕ) (s : State) (first : List Bytes) (last text : Bytes) (reply : Reply) (after : State) : Type 0 where
  pub early : Bytes
  pub before : State
  pub went : AnsweredLines Cause filter_bytes R said s first early before
  pub step : Step Cause filter_bytes before (request_of last) reply after
  pub whole : text ≡ early ++ text_of reply
  pub holds : AsSaid (turn_of reply) (R (said + length text) after)

-- Nothing was answered yet, or some first lines were.
pub data Answers (Cause : Why → Type 0) (filter_bytes : FilterBytes) (R : ℕ → State → Type 0) (said : ℕ) (s : State) : List Bytes → Bytes → State → Type 0 where
  nothing : Answers Cause filter_bytes R said s [] [] s
  answered : (first : List Bytes) (last text : Bytes) (reply : Reply) (after : State)
      → LastAnswered Cause filter_bytes R said s first last text reply after
      → Answers Cause filter_bytes R said s (first ++ (last ∷ [])) text after

-- The script ends after a line that was answered so: by the reply, or by the merge slice after it.
abbrev pub ScriptEndsAt : (Why → Type 0) → FilterBytes → Bytes → Reply → State → Ending → Type 0
ScriptEndsAt Cause filter_bytes last reply after ending =
    (turn_of reply ≡ Over ending)
    ⊎ ((turn_of reply ≡ Onward) × ((next : State) × Between Cause filter_bytes (request_of last) after (Over ending) next))
