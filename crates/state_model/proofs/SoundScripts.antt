-- Each state of a script from a sound one is sound.
use Rattle.std.proofs.Common.{ℕ, ◌+◌, List, [], ◌∷◌, length, sym, subst}
use Rattle.map_model.specs.SortedMap.{Bytes}
use Rattle.state_model.specs.State.{State}
use Rattle.table_model.specs.Tables.{FilterBytes}
use Rattle.line_model.specs.Requests.{Request, Put, Del, Get, Seek, Range, Count, Estimate, Explain, Flush, Compact, Quit, Bad, request_of}
use Rattle.line_model.specs.Replies.{text_of}
use Rattle.state_model.specs.Script.{Ending, AtDevice, AtDamage, ToLast, AtQuit, Turn, Onward, Over, turn_of, Between, AsSaid, EndsOr, Script, AnsweredLines, Answers, nothing, answered}
use Rattle.state_model.specs.Sound.{IsSound}
use Rattle.state_model.specs.SoundLaws.{WithSound}
use Rattle.state_model.specs.Causes.{Why}
use Rattle.state_model.proofs.AnyCause.{ever_tends, ever_steps}
use Rattle.state_model.proofs.OfBytes.{lines_ask}
use Rattle.state_model.proofs.SoundInstalls.{slice_sound}
use Rattle.state_model.proofs.SoundLines.{step_sound}

between_sound : (Cause : Why → Type 0) (filter_bytes : FilterBytes) (request : Request) (s after : State) (turn : Turn) → IsSound filter_bytes s → Between Cause filter_bytes request s turn after → IsSound filter_bytes after
between_sound Cause filter_bytes (Put key value) s after turn sound b = slice_sound filter_bytes s after b.0 sound (ever_tends Cause filter_bytes s after b.0 b.1)
between_sound Cause filter_bytes (Del key) s after turn sound b = slice_sound filter_bytes s after b.0 sound (ever_tends Cause filter_bytes s after b.0 b.1)
between_sound Cause filter_bytes (Get key) s after turn sound b = subst (IsSound filter_bytes) (sym b.1) sound
between_sound Cause filter_bytes (Seek lo hi) s after turn sound b = subst (IsSound filter_bytes) (sym b.1) sound
between_sound Cause filter_bytes (Range lo hi n) s after turn sound b = subst (IsSound filter_bytes) (sym b.1) sound
between_sound Cause filter_bytes (Count lo hi) s after turn sound b = subst (IsSound filter_bytes) (sym b.1) sound
between_sound Cause filter_bytes (Estimate lo hi) s after turn sound b = subst (IsSound filter_bytes) (sym b.1) sound
between_sound Cause filter_bytes (Explain key) s after turn sound b = subst (IsSound filter_bytes) (sym b.1) sound
between_sound Cause filter_bytes Flush s after turn sound b = subst (IsSound filter_bytes) (sym b.1) sound
between_sound Cause filter_bytes Compact s after turn sound b = subst (IsSound filter_bytes) (sym b.1) sound
between_sound Cause filter_bytes Quit s after turn sound b = subst (IsSound filter_bytes) (sym b.1) sound
between_sound Cause filter_bytes (Bad code) s after turn sound b = subst (IsSound filter_bytes) (sym b.1) sound

as_said : (turn : Turn) (P Q : Type 0) → AsSaid turn P → Q → AsSaid turn (P × Q)
as_said Onward P Q is also = (is, also)
as_said (Over AtDevice) P Q is also = tt
as_said (Over AtDamage) P Q is also = tt
as_said (Over ToLast) P Q is also = (is, also)
as_said (Over AtQuit) P Q is also = (is, also)

-- what follows is turned into what is said of it
ends_with : (turn : Turn) (rest : Bytes) (ending : Ending) (Next Later : Type 0) → (Next → Later) → EndsOr turn rest ending Next → EndsOr turn rest ending Later
ends_with Onward rest ending Next Later turned next = turned next
ends_with (Over why) rest ending Next Later turned end = end

-- whatever the causes are, and whatever else the states have
pub script_sound : (Cause : Why → Type 0) (filter_bytes : FilterBytes) (R : ℕ → State → Type 0) (said : ℕ) (s : State) (lines : List Bytes) (text : Bytes) (ending : Ending)
    → IsSound filter_bytes s → Script Cause filter_bytes R said s lines text ending → Script Cause filter_bytes (WithSound filter_bytes R) said s lines text ending
script_sound Cause filter_bytes R said s [] text ending sound script = script
script_sound Cause filter_bytes R said s (line ∷ more) text ending sound (reply, rest, new, whole, step, holds, next) =
    let request = request_of line in
    let here = step_sound filter_bytes s new request reply sound (lines_ask line) (ever_steps Cause filter_bytes s new request reply step) in
    let so_far = said + length (text_of reply) in (
      reply,
      rest,
      new,
      whole,
      step,
      as_said (turn_of reply) (R so_far new) (IsSound filter_bytes new) holds here,
      ends_with (turn_of reply) rest ending
          ((turn : Turn) × (after : State) × Between Cause filter_bytes request new turn after × EndsOr turn rest ending (Script Cause filter_bytes R so_far after more rest ending))
          ((turn : Turn) × (after : State) × Between Cause filter_bytes request new turn after × EndsOr turn rest ending (Script Cause filter_bytes (WithSound filter_bytes R) so_far after more rest ending))
          (λ n. (
            n.0,
            n.1,
            n.2,
            ends_with n.0 rest ending (Script Cause filter_bytes R so_far n.1 more rest ending) (Script Cause filter_bytes (WithSound filter_bytes R) so_far n.1 more rest ending)
                (script_sound Cause filter_bytes R so_far n.1 more rest ending (between_sound Cause filter_bytes request new n.1 n.0 here n.2)) n.3,
          )) next,
    )

pub first_lines_sound : (Cause : Why → Type 0) (filter_bytes : FilterBytes) (R : ℕ → State → Type 0) (said : ℕ) (s after : State) (lines : List Bytes) (text : Bytes)
    → IsSound filter_bytes s → AnsweredLines Cause filter_bytes R said s lines text after
    → AnsweredLines Cause filter_bytes (WithSound filter_bytes R) said s lines text after × IsSound filter_bytes after
first_lines_sound Cause filter_bytes R said s after [] text sound went = (went, subst (IsSound filter_bytes) (sym went.1) sound)
first_lines_sound Cause filter_bytes R said s after (line ∷ more) text sound (reply, rest, new, next, whole, step, onward, holds, between, went) =
    let request = request_of line in
    let here = step_sound filter_bytes s new request reply sound (lines_ask line) (ever_steps Cause filter_bytes s new request reply step) in
    let later = first_lines_sound Cause filter_bytes R (said + length (text_of reply)) next after more rest (between_sound Cause filter_bytes request new next Onward here between) went in
    ((reply, rest, new, next, whole, step, onward, (holds, here), between, later.0), later.1)

pub answered_sound : (Cause : Why → Type 0) (filter_bytes : FilterBytes) (R : ℕ → State → Type 0) (said : ℕ) (s after : State) (lines : List Bytes) (text : Bytes)
    → IsSound filter_bytes s → Answers Cause filter_bytes R said s lines text after
    → Answers Cause filter_bytes (WithSound filter_bytes R) said s lines text after × IsSound filter_bytes after
answered_sound Cause filter_bytes R said s after lines text sound d = elim d as (λ ls t new _. Answers Cause filter_bytes (WithSound filter_bytes R) said s ls t new × IsSound filter_bytes new) [
  | nothing ↦ (nothing, sound)
  | answered first last all reply new d ↦
      let behind = first_lines_sound Cause filter_bytes R said s d.before first d.early sound d.went in
      let here = step_sound filter_bytes d.before new (request_of last) reply behind.1 (lines_ask last) (ever_steps Cause filter_bytes d.before new (request_of last) reply d.step) in (
        answered first last all reply new (record {
          early = d.early;
          before = d.before;
          went = behind.0;
          step = d.step;
          whole = d.whole;
          holds = as_said (turn_of reply) (R (said + length all) new) (IsSound filter_bytes new) d.holds here;
        }),
        here,
      )
]
