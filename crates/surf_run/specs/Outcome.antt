-- What a run that served came to.
use Rattle.std.specs.Prelude.{◌≡◌, ◌≢◌, ◌⊎◌, ◌<◌, ◌≤◌, ◌+◌, ◌*◌, ◌++◌, ℕ, List, [], ◌∷◌, length}
use Rattle.block_model.specs.Pages.{page_bytes}
use Rattle.disk_trait.specs.World.{World}
use Rattle.key_base.specs.Limits.{max_input_bytes, piece_bytes}
use Rattle.line_model.specs.Lines.{lines_of, whole_lines}
use Rattle.line_model.specs.Replies.{Bye, Device, Reply, text_of}
use Rattle.line_model.specs.Requests.{request_of}
use Rattle.lines_in.specs.Causes.{IsServing, WritesWithin}
use Rattle.lines_in.specs.Statuses.{done_status, input_status, device_status, output_status, limit_status}
use Rattle.lines_in.specs.Taken.{TakenTo}
use Rattle.map_model.specs.SortedMap.{Bytes}
use Rattle.outside.specs.During.{During}
use Rattle.outside.specs.Streams.{SaysPrefix}
use Rattle.state_model.specs.Script.{AtDevice, AtQuit, Ending, ScriptEndsAt, Onward, Script, ToLast, turn_of}
use Rattle.state_model.specs.State.{State}
use Rattle.state_model.specs.Steps.{Step}
use Rattle.state_model.specs.View.{state_map}
use Rattle.store_core.specs.Answers.{HasCause}
use Rattle.surf_run.specs.Crash.{EachImageStandsFor, KeepsAcknowledged, WasStateAt}
use Rattle.surf_run.specs.Dialogue.{AnsweredLines, AreBounded, line_bound}
use Rattle.surf_run.specs.Kind.{Kind}
use Rattle.surf_run.specs.OneMap.{MapDialogue}

-- All of the script's text was said, for the lines of what was taken; and the input was at its end, or whatever follows
-- changes nothing. As each reply had been said that is not `device`, each image that a crash may then leave stood for the
-- state then.
pub record SaidWholeScript (kind : Kind) (ending : Ending) (start : State) (taken : Bytes) (old new : World) : Type 0 where
  pub text : Bytes
  pub output : new.beside.said ≡ old.beside.said ++ text
  pub script : Script (HasCause old new) kind.filter_bytes (WasStateAt kind new) (length old.beside.said) start (lines_of taken) text ending
  pub settled :
      (new.beside.to_take ≡ [])
      ⊎ ((more : Bytes) → Script (HasCause old new) kind.filter_bytes (WasStateAt kind new) (length old.beside.said) start (lines_of (taken ++ more)) text ending)

-- Each image that a crash may leave now stands for the state that these lines and their merge slices leave, its job apart: so the
-- next run begins with it. The replies were said. Since there had been `base` reads, no more blocks were read than the lines'
-- gets, closed seeks and merge slices may read, where no other line reads.
pub record LeavesState (kind : Kind) (start : State) (base : ℕ) (lines : List Bytes) (old new : World) : Type 0 where
  pub text : Bytes
  pub output : new.beside.said ≡ old.beside.said ++ text
  pub most : ℕ
  pub last : State
  pub so_far : AnsweredLines (HasCause old new) kind.filter_bytes (WasStateAt kind new) (length old.beside.said) start lines text most last
  pub one_map : MapDialogue (state_map start) lines text (state_map last)
  pub reads : AreBounded lines → new.seen.reads ≤ base + most
  pub stands : EachImageStandsFor kind last new

-- These lines were answered, none of them with a last reply, and then this one with this reply, and so it came to this end: by
-- the reply, or by the merge slice after it. What a crash may leave at each moment is told over these lines alone. Where the
-- reply is the last, but for `device`, each image that a crash may leave now stands for the state after it, its job apart: so the
-- next run begins with it.
pub record LastReply (kind : Kind) (ending : Ending) (reply : Reply) (start : State) (base : ℕ) (lines : List Bytes) (line : Bytes) (old new : World) : Type 0 where
  pub text : Bytes
  pub most : ℕ
  pub now : State
  pub so_far : AnsweredLines (HasCause old new) kind.filter_bytes (WasStateAt kind new) (length old.beside.said) start lines text most now
  pub one_map : MapDialogue (state_map start) lines text (state_map now)
  pub last : State
  pub step : Step (HasCause old new) kind.filter_bytes now (request_of line) reply last
  pub there : ScriptEndsAt (HasCause old new) kind.filter_bytes line reply last ending
  pub reads : AreBounded (lines ++ line ∷ []) → new.seen.reads ≤ base + most + line_bound now (request_of line)
  pub output : new.beside.said ≡ old.beside.said ++ (text ++ text_of reply)
  pub crash : During (KeepsAcknowledged (HasCause old new) kind start (lines ++ line ∷ []) old.beside.said new.beside.said) old new
  pub stands : turn_of reply ≢ Onward → reply ≢ Device → EachImageStandsFor kind last new

-- this was the last reply, to a line after which less than a given number of bytes were taken
abbrev pub LastReplyTo : Kind → ℕ → Ending → Reply → State → ℕ → Bytes → World → World → Type 0
LastReplyTo kind most ending reply start base taken old new =
    (lines : List Bytes) × (line : Bytes) × TakenTo most taken lines line × LastReply kind ending reply start base lines line old new

-- the same where the device failed: by `device`, be it after the first pairs of a range, or by a merge slice after the reply
abbrev pub EndsAtDevice : Kind → ℕ → State → ℕ → Bytes → World → World → Type 0
EndsAtDevice kind most start base taken old new = (reply : Reply) × LastReplyTo kind most AtDevice reply start base taken old new

-- The input was cut off: all its whole lines were answered, and a rest without a newline is no line.
pub record InputCutOff (kind : Kind) (start : State) (base : ℕ) (taken : Bytes) (old new : World) : Type 0 where
  pub text : Bytes
  pub output : new.beside.said ≡ old.beside.said ++ text
  pub script : Script (HasCause old new) kind.filter_bytes (WasStateAt kind new) (length old.beside.said) start (whole_lines taken) text ToLast
  pub crash : During (KeepsAcknowledged (HasCause old new) kind start (whole_lines taken) old.beside.said new.beside.said) old new
  pub leaves : LeavesState kind start base (whole_lines taken) old new

-- These lines were answered whole, none of them with a last reply, and of the reply to this one a prefix was said. What a crash
-- may leave at each moment is told over these lines alone. The state now is that after the line, but for `device`.
pub record ReplyCutOffAt (kind : Kind) (start : State) (base : ℕ) (lines : List Bytes) (line : Bytes) (old new : World) : Type 0 where
  pub text : Bytes
  pub most : ℕ
  pub now : State
  pub so_far : AnsweredLines (HasCause old new) kind.filter_bytes (WasStateAt kind new) (length old.beside.said) start lines text most now
  pub one_map : MapDialogue (state_map start) lines text (state_map now)
  pub reply : Reply
  pub last : State
  pub step : Step (HasCause old new) kind.filter_bytes now (request_of line) reply last
  pub reads : AreBounded (lines ++ line ∷ []) → new.seen.reads ≤ base + most + line_bound now (request_of line)
  pub prefix : SaysPrefix (text_of reply) (old.beside.said ++ text) new.beside.said
  pub crash : During (KeepsAcknowledged (HasCause old new) kind start (lines ++ line ∷ []) old.beside.said new.beside.said) old new
  pub stands : reply ≢ Device → EachImageStandsFor kind last new

-- The output failed: some first lines were answered whole, and of the next line's reply a prefix was said. That line has its
-- newline, or the input is at its end; less than one piece was taken after it.
pub record OutputFailed (kind : Kind) (start : State) (base : ℕ) (taken : Bytes) (old new : World) : Type 0 where
  pub lines : List Bytes
  pub line : Bytes
  pub later : List Bytes
  pub split : lines_of taken ≡ lines ++ line ∷ later
  pub ended : ((whole : List Bytes) × (whole_lines taken ≡ lines ++ line ∷ whole)) ⊎ (new.beside.to_take ≡ [])
  pub taken_to : TakenTo piece_bytes taken lines line
  pub breaks : ReplyCutOffAt kind start base lines line old new

-- What was said by the status, and what each image that a crash may leave at each moment stands for. To the last line it comes
-- where less was taken than may be: at 2^40 bytes the input is cut off, be it at its end or not.
pub record EndOfServe (kind : Kind) (status : ℕ) (start : State) (base : ℕ) (taken : Bytes) (old new : World) : Type 0 where
  pub serving : IsServing status
  pub ended :
      status ≡ done_status
      → (SaidWholeScript kind ToLast start taken old new × LeavesState kind start base (lines_of taken) old new × (length taken < max_input_bytes))
      ⊎ (SaidWholeScript kind AtQuit start taken old new × LastReplyTo kind piece_bytes AtQuit Bye start base taken old new)
  pub device : status ≡ device_status → SaidWholeScript kind AtDevice start taken old new × EndsAtDevice kind piece_bytes start base taken old new
  pub cut : (status ≡ input_status) ⊎ (status ≡ limit_status) → InputCutOff kind start base taken old new
  pub output : status ≡ output_status → OutputFailed kind start base taken old new
  pub said : (text : Bytes) × (new.beside.said ≡ old.beside.said ++ text)
  pub crash : During (KeepsAcknowledged (HasCause old new) kind start (lines_of taken) old.beside.said new.beside.said) old new
  pub writes : WritesWithin (page_bytes * start.pages) old new

-- with what was taken
pub record Outcome (kind : Kind) (status : ℕ) (start : State) (base : ℕ) (old new : World) : Type 0 where
  pub taken : Bytes
  pub input : old.beside.to_take ≡ taken ++ new.beside.to_take
  pub settled : EndOfServe kind status start base taken old new
  pub limit : status ≡ limit_status → length taken ≡ max_input_bytes
  pub most : length taken ≤ max_input_bytes
