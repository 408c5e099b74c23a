-- First lines that went on, and a script after them, are a script.
use Rattle.std.proofs.Common.{◌≡◌, ◌+◌, ◌++◌, ℕ, List, [], ◌∷◌, length, sym, ap, ◌∙◌, subst, arith, append_assoc, length-append}
use Rattle.map_model.specs.SortedMap.{Bytes}
use Rattle.state_model.specs.State.{State}
use Rattle.table_model.specs.Tables.{FilterBytes}
use Rattle.state_model.specs.Causes.{Why}
use Rattle.line_model.specs.Requests.{request_of}
use Rattle.line_model.specs.Replies.{text_of}
use Rattle.state_model.specs.Script.{Ending, Turn, Onward, AsSaid, EndsOr, Between, Script, AnsweredLines}

-- so much was said, with a reply and what follows it
pub said_more : (said : ℕ) (text own more : Bytes) → text ≡ own ++ more → said + length text ≡ said + length own + length more
said_more said text own more whole =
    let long : length text ≡ length own + length more = ap (λ (l : Bytes). length l) whole ∙ length-append own more in omega (arith, long)

pub none_more : (said : ℕ) (text : Bytes) → text ≡ [] → said + length text ≡ said
none_more said text none = let long : length text ≡ 0 = ap (λ (l : Bytes). length l) none in omega (arith, long)

pub goes_on : (Cause : Why → Type 0) (filter_bytes : FilterBytes) (R : ℕ → State → Type 0) (said : ℕ) (s after : State) (first lines : List Bytes) (text rest : Bytes) (ending : Ending)
    → AnsweredLines Cause filter_bytes R said s first text after → Script Cause filter_bytes R (said + length text) after lines rest ending
    → Script Cause filter_bytes R said s (first ++ lines) (text ++ rest) ending
goes_on Cause filter_bytes R said s after [] lines text rest ending went script =
    let here = subst (λ (n : ℕ). Script Cause filter_bytes R n after lines rest ending) (none_more said text went.0) script in
    let same = subst (λ (t : State). Script Cause filter_bytes R said t lines rest ending) went.1 here in
    subst (λ (t : Bytes). Script Cause filter_bytes R said s lines (t ++ rest) ending) (sym went.0) same
goes_on Cause filter_bytes R said s after (line ∷ first) lines text rest ending (reply, later, new, next, whole, step, onward, holds, between, went) script =
    let so_far = said + length (text_of reply) in
    let behind = subst (λ (n : ℕ). Script Cause filter_bytes R n after lines rest ending) (said_more said text (text_of reply) later whole) script in
    let Next : Type 0 = (turn : Turn) × (t : State) × Between Cause filter_bytes (request_of line) new turn t
    × EndsOr turn (later ++ rest) ending (Script Cause filter_bytes R so_far t (first ++ lines) (later ++ rest) ending) in (
      reply,
      later ++ rest,
      new,
      ap (λ (t : Bytes). t ++ rest) whole ∙ append_assoc (text_of reply) later rest,
      step,
      subst (λ (t : Turn). AsSaid t (R so_far new)) (sym onward) holds,
      subst (λ (t : Turn). EndsOr t (later ++ rest) ending Next) (sym onward)
          (Onward, next, between, goes_on Cause filter_bytes R so_far next after first lines later rest ending went behind),
    )
