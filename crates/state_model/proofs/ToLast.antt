-- A script to its last line has answered all lines.
use Rattle.std.proofs.Common.{◌≡◌, ◌+◌, ℕ, List, [], ◌∷◌, length, refl, sym, subst}
use Rattle.map_model.specs.SortedMap.{Bytes, Map}
use Rattle.state_model.specs.State.{State}
use Rattle.table_model.specs.Tables.{FilterBytes}
use Rattle.state_model.specs.Causes.{Why}
use Rattle.line_model.specs.Requests.{Request, Put, Del, Get, Seek, Range, Count, Estimate, Explain, Flush, Compact, Quit, Bad, request_of}
use Rattle.line_model.specs.Replies.{Reply, Done, Value, Missing, At, Pairs, End, Counted, About, Explained, Bye, BadLine, LongKey, LongValue, ManyTables, LastEpoch, Full, Memory, Device, Damaged, text_of}
use Rattle.state_model.specs.Tends.{Tended, Idle, Worked, Refused}
use Rattle.state_model.specs.Script.{ToLast, AtQuit, AtDevice, AtDamage, Turn, Onward, Over, turn_of, turn_of_slice, AsSaid, EndsOr, Between, Script, AnsweredLines}

-- a turn that ends a script, ends it before its last line
abbrev EndsEarly : Turn → Type 0
EndsEarly Onward = Unit {0}
EndsEarly (Over ToLast) = ⊥
EndsEarly (Over ending) = Unit {0}

pairs_early : (found : Map) (last : Reply) → EndsEarly (turn_of (Pairs found last))
pairs_early found Done = tt
pairs_early found (Value value) = tt
pairs_early found Missing = tt
pairs_early found (At key value) = tt
pairs_early found (End count) = tt
pairs_early found (Counted count) = tt
pairs_early found (About count) = tt
pairs_early found (Explained tables admitted blocks) = tt
pairs_early found Bye = tt
pairs_early found (BadLine code) = tt
pairs_early found (LongKey size) = tt
pairs_early found (LongValue size) = tt
pairs_early found ManyTables = tt
pairs_early found LastEpoch = tt
pairs_early found (Full need gap) = tt
pairs_early found Memory = tt
pairs_early found Device = tt
pairs_early found (Damaged damage) = tt
pairs_early found (Pairs more last) = tt

reply_early : (reply : Reply) → EndsEarly (turn_of reply)
reply_early Done = tt
reply_early (Value value) = tt
reply_early Missing = tt
reply_early (At key value) = tt
reply_early (End count) = tt
reply_early (Counted count) = tt
reply_early (About count) = tt
reply_early (Explained tables admitted blocks) = tt
reply_early Bye = tt
reply_early (BadLine code) = tt
reply_early (LongKey size) = tt
reply_early (LongValue size) = tt
reply_early ManyTables = tt
reply_early LastEpoch = tt
reply_early (Full need gap) = tt
reply_early Memory = tt
reply_early Device = tt
reply_early (Damaged damage) = tt
reply_early (Pairs found last) = pairs_early found last

slice_early : (tended : Tended) → EndsEarly (turn_of_slice tended)
slice_early Idle = tt
slice_early Worked = tt
slice_early (Refused why) = reply_early why

between_early : (Cause : Why → Type 0) (filter_bytes : FilterBytes) (request : Request) (s after : State) (turn : Turn) → Between Cause filter_bytes request s turn after → EndsEarly turn
between_early Cause filter_bytes (Put key value) s after turn b = subst EndsEarly (sym b.2) (slice_early b.0)
between_early Cause filter_bytes (Del key) s after turn b = subst EndsEarly (sym b.2) (slice_early b.0)
between_early Cause filter_bytes (Get key) s after turn b = subst EndsEarly (sym b.0) tt
between_early Cause filter_bytes (Seek lo hi) s after turn b = subst EndsEarly (sym b.0) tt
between_early Cause filter_bytes (Range lo hi n) s after turn b = subst EndsEarly (sym b.0) tt
between_early Cause filter_bytes (Count lo hi) s after turn b = subst EndsEarly (sym b.0) tt
between_early Cause filter_bytes (Estimate lo hi) s after turn b = subst EndsEarly (sym b.0) tt
between_early Cause filter_bytes (Explain key) s after turn b = subst EndsEarly (sym b.0) tt
between_early Cause filter_bytes Flush s after turn b = subst EndsEarly (sym b.0) tt
between_early Cause filter_bytes Compact s after turn b = subst EndsEarly (sym b.0) tt
between_early Cause filter_bytes Quit s after turn b = subst EndsEarly (sym b.0) tt
between_early Cause filter_bytes (Bad code) s after turn b = subst EndsEarly (sym b.0) tt

-- where it is to come to its last line, it goes on
onward : (turn : Turn) (rest : Bytes) (Next : Type 0) → EndsEarly turn → EndsOr turn rest ToLast Next → (turn ≡ Onward) × Next
onward Onward rest Next early next = (refl, next)
onward (Over ToLast) rest Next early end = absurd early
onward (Over AtQuit) rest Next early (none, wrong) = absurd cc
onward (Over AtDevice) rest Next early (none, wrong) = absurd cc
onward (Over AtDamage) rest Next early (none, wrong) = absurd cc

pub went_to_last : (Cause : Why → Type 0) (filter_bytes : FilterBytes) (R : ℕ → State → Type 0) (said : ℕ) (s : State) (lines : List Bytes) (text : Bytes)
    → Script Cause filter_bytes R said s lines text ToLast → (after : State) × AnsweredLines Cause filter_bytes R said s lines text after
went_to_last Cause filter_bytes R said s [] text script = (s, (script.0, refl))
went_to_last Cause filter_bytes R said s (line ∷ more) text (reply, rest, new, whole, step, holds, next) =
    let request = request_of line in
    let so_far = said + length (text_of reply) in
    let Next : Type 0 = (turn : Turn) × (after : State) × Between Cause filter_bytes request new turn after
    × EndsOr turn rest ToLast (Script Cause filter_bytes R so_far after more rest ToLast) in
    let said_on = onward (turn_of reply) rest Next (reply_early reply) next in
    let behind = said_on.1 in
    let tended_on = onward behind.0 rest (Script Cause filter_bytes R so_far behind.1 more rest ToLast) (between_early Cause filter_bytes request new behind.1 behind.0 behind.2) behind.3 in
    let later = went_to_last Cause filter_bytes R so_far behind.1 more rest tended_on.1 in (
      later.0,
      (
        reply,
        rest,
        new,
        behind.1,
        whole,
        step,
        said_on.0,
        subst (λ (t : Turn). AsSaid t (R so_far new)) said_on.0 holds,
        subst (λ (t : Turn). Between Cause filter_bytes request new t behind.1) tended_on.0 behind.2,
        later.1,
      ),
    )
