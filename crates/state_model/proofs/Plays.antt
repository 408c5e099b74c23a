-- Lines that are played are a script.
use Rattle.std.proofs.Common.{◌≡◌, ◌⊎◌, inl, inr, ℕ, ◌+◌, List, [], ◌∷◌, ◌++◌, length, refl, sym, ap, ◌∙◌, subst, true, false, cond, map}
use Rattle.std.specs.Option.{option_or}
use Rattle.std.specs.Prelude.{Option, Some, None, Result, Ok, Err, nat_le, nat_lt, ◌==◌, ◌||◌, flat_map}
use Rattle.std.proofs.lemmas.List.Concat.{flat_map-cons}
use Rattle.key_base.specs.Limits.{last_epoch, max_tables}
use Rattle.map_model.specs.SortedMap.{Bytes, get}
use Rattle.entry_model.specs.Entries.{Entry, need, gap, put_entry, del_entry}
use Rattle.state_model.specs.State.{State, without_job}
use Rattle.table_model.specs.Tables.{FilterBytes, Table}
use Rattle.state_model.specs.View.{memory, changes_of, state_map, in_memory}
use Rattle.state_model.specs.Taken.{taken}
use Rattle.state_model.specs.Merges.{NoRoom, placed}
use Rattle.state_model.specs.Causes.{Why}
use Rattle.state_model.specs.Changes.{is_long, with_tables, flush_placed, flushed_with, flushed, logged, logged_then, written, compact_placed, compacted_with, compacted, compacted_outputs}
use Rattle.line_model.specs.Limits.{key_limit, value_limit, bound_limit, limit_of}
use Rattle.line_model.specs.Requests.{Request, Put, Del, Get, Seek, Range, Count, Estimate, Explain, Flush, Compact, Quit, Bad, request_of}
use Rattle.line_model.specs.Replies.{Reply, Done, Value, Missing, At, Pairs, End, Counted, About, Explained, Bye, BadLine, LongKey, LongValue, ManyTables, LastEpoch, Full, Memory, Device, Damaged, text_of, got, found}
use Rattle.map_model.specs.Slices.{seek}
use Rattle.state_model.specs.Steps.{Answer, answer, answer_within, done_or_refused, unless_limit, Step, answers}
use Rattle.state_model.specs.Play.{tended, reply_then, played}
use Rattle.state_model.specs.Script.{Ending, ToLast, AtQuit, Turn, Onward, turn_of, Between, EndsOr, AsSaid, Script}
use Rattle.state_model.specs.PlayLaws.{AnyState, played_text}
use Rattle.state_model.proofs.Wholes.{merged_is_a_slice}
use Rattle.range_model.specs.Sources.{Change, Sets, Source}
use Rattle.state_model.specs.Logs.{recorded, need_of, gap_after}

-- ---- an answer goes on, or is the last; no job runs after it

abbrev GoesOnOrBye : Reply → Type 0
GoesOnOrBye reply = (turn_of reply ≡ Onward) ⊎ (reply ≡ Bye)

abbrev Calm : Answer → Type 0
Calm a = GoesOnOrBye a.0 × (a.1.job ≡ None)

abbrev CalmResult : Result State Reply → Type 0
CalmResult (Ok t) = t.job ≡ None
CalmResult (Err refusal) = turn_of refusal ≡ Onward

abbrev CalmLimit : Option Reply → Type 0
CalmLimit None = Unit {0}
CalmLimit (Some limit) = turn_of limit ≡ Onward

key_calm : (key : Bytes) → CalmLimit (key_limit key)
key_calm key = elim (length key == 0 || nat_lt 1024 (length key)) as (λ t. CalmLimit (cond t (Some (LongKey (length key))) None)) [ true ↦ refl | false ↦ tt ]

value_calm : (value : Bytes) → CalmLimit (value_limit value)
value_calm value = elim (nat_lt 1048576 (length value)) as (λ t. CalmLimit (cond t (Some (LongValue (length value))) None)) [ true ↦ refl | false ↦ tt ]

bound_calm : (bound : Bytes) → CalmLimit (bound_limit bound)
bound_calm bound = elim (nat_lt 1024 (length bound)) as (λ t. CalmLimit (cond t (Some (LongKey (length bound))) None)) [ true ↦ refl | false ↦ tt ]

first_calm : (a b : Option Reply) → CalmLimit a → CalmLimit b → CalmLimit (option_or a b)
first_calm (Some limit) b calm other = calm
first_calm None b calm other = other

with_tables_calm : (s : State) (tables : List Table) → s.job ≡ None → CalmResult (with_tables s tables)
with_tables_calm s tables none = elim (s.epoch == last_epoch) as (λ t. CalmResult (cond t (Err LastEpoch) (Ok (record s { epoch = s.epoch + 1; log = []; tables = tables })))) [ true ↦ refl | false ↦ none ]

flush_placed_calm : (s : State) (done : Result (List Table) NoRoom) → s.job ≡ None → CalmResult (flush_placed s done)
flush_placed_calm s (Ok made) none = with_tables_calm s (made ++ s.tables) none
flush_placed_calm s (Err refusal) none = refl

flushed_with_calm : (filter_bytes : FilterBytes) (s : State) (source : Source) (entries : List Entry) → s.job ≡ None → CalmResult (flushed_with filter_bytes s source entries)
flushed_with_calm filter_bytes s source [] none = none
flushed_with_calm filter_bytes s source (entry ∷ more) none = elim (nat_le max_tables (length s.tables)) as (λ t. CalmResult (cond t (Err ManyTables) (flush_placed s (placed filter_bytes s.settings s.pages (taken s) 0 (source ∷ []))))) [
  | true ↦ refl
  | false ↦ flush_placed_calm s (placed filter_bytes s.settings s.pages (taken s) 0 (source ∷ [])) none
]

flushed_calm : (filter_bytes : FilterBytes) (s : State) → s.job ≡ None → CalmResult (flushed filter_bytes s)
flushed_calm filter_bytes s none = flushed_with_calm filter_bytes s (in_memory s) (memory s) none

logged_then_calm : (change : Change) (done : Result State Reply) → CalmResult done → CalmResult (logged_then change done)
logged_then_calm change (Ok s) none = none
logged_then_calm change (Err refusal) calm = calm

short_calm : (filter_bytes : FilterBytes) (s : State) (change : Change) → s.job ≡ None → CalmResult (cond (nat_le (need_of change) (gap_after s.log)) (Ok (logged s change)) (logged_then change (flushed filter_bytes s)))
short_calm filter_bytes s change none = elim (nat_le (need_of change) (gap_after s.log)) as (λ t. CalmResult (cond t (Ok (logged s change)) (logged_then change (flushed filter_bytes s)))) [
  | true ↦ none
  | false ↦ logged_then_calm change (flushed filter_bytes s) (flushed_calm filter_bytes s none)
]

written_calm : (filter_bytes : FilterBytes) (s : State) (change : Change) → s.job ≡ None → CalmResult (written filter_bytes s change)
written_calm filter_bytes s change none = elim (is_long (recorded change)) as (λ long. CalmResult
    (cond long (flushed filter_bytes (logged s change)) (cond (nat_le (need_of change) (gap_after s.log)) (Ok (logged s change)) (logged_then change (flushed filter_bytes s))))) [
      | true ↦ flushed_calm filter_bytes (logged s change) none
      | false ↦ short_calm filter_bytes s change none
    ]

compact_placed_calm : (s : State) (done : Result (List Table) NoRoom) → CalmResult (compact_placed s done)
compact_placed_calm s (Ok made) = refl
compact_placed_calm s (Err refusal) = refl

compacted_with_calm : (filter_bytes : FilterBytes) (s : State) (changes : List Change) → s.job ≡ None → CalmResult (compacted_with filter_bytes s changes)
compacted_with_calm filter_bytes s [] none = none
compacted_with_calm filter_bytes s (change ∷ more) none =
    let done = placed filter_bytes s.settings s.pages (taken (without_job s)) 6 (compacted_outputs s) in
    elim (s.epoch == last_epoch) as (λ t. CalmResult (cond t (Err LastEpoch) (compact_placed s done))) [ true ↦ refl | false ↦ compact_placed_calm s done ]

changed_calm : (old : State) (done : Result State Reply) → old.job ≡ None → CalmResult done → Calm (done_or_refused old done)
changed_calm old (Ok t) none calm = (inl refl, calm)
changed_calm old (Err refusal) none calm = (inl calm, none)

limit_calm : (limit : Option Reply) (s : State) (a : Answer) → s.job ≡ None → CalmLimit limit → Calm a → Calm (unless_limit limit s a)
limit_calm (Some limit) s a none calm answered = (inl calm, none)
limit_calm None s a none calm answered = answered

got_calm : (value : Option Bytes) → turn_of (got value) ≡ Onward
got_calm (Some value) = refl
got_calm None = refl

found_calm : (pair : Option (Bytes × Bytes)) → turn_of (found pair) ≡ Onward
found_calm (Some pair) = refl
found_calm None = refl

pub answer_is_calm : (filter_bytes : FilterBytes) (s : State) (request : Request) → s.job ≡ None → Calm (answer filter_bytes s request)
answer_is_calm filter_bytes s (Put key value) none = limit_calm (limit_of (Put key value)) s (answer_within filter_bytes s (Put key value)) none
    (first_calm (key_limit key) (value_limit value) (key_calm key) (value_calm value))
    (changed_calm s (written filter_bytes s (Sets (put_entry key value))) none (written_calm filter_bytes s (Sets (put_entry key value)) none))
answer_is_calm filter_bytes s (Del key) none = limit_calm (key_limit key) s (answer_within filter_bytes s (Del key)) none (key_calm key)
    (changed_calm s (written filter_bytes s (Sets (del_entry key))) none (written_calm filter_bytes s (Sets (del_entry key)) none))
answer_is_calm filter_bytes s (Get key) none = limit_calm (key_limit key) s (answer_within filter_bytes s (Get key)) none (key_calm key) (inl (got_calm (get (state_map s) key)), none)
answer_is_calm filter_bytes s (Seek lo None) none = limit_calm (bound_limit lo) s (answer_within filter_bytes s (Seek lo None)) none (bound_calm lo) (inl (found_calm (seek (state_map s) lo None)), none)
answer_is_calm filter_bytes s (Seek lo (Some hi)) none = limit_calm (limit_of (Seek lo (Some hi))) s (answer_within filter_bytes s (Seek lo (Some hi))) none
    (first_calm (bound_limit lo) (bound_limit hi) (bound_calm lo) (bound_calm hi)) (inl (found_calm (seek (state_map s) lo (Some hi))), none)
answer_is_calm filter_bytes s (Range lo hi n) none = limit_calm (limit_of (Range lo hi n)) s (answer_within filter_bytes s (Range lo hi n)) none
    (first_calm (bound_limit lo) (bound_limit hi) (bound_calm lo) (bound_calm hi)) (inl refl, none)
answer_is_calm filter_bytes s (Count lo hi) none = limit_calm (limit_of (Count lo hi)) s (answer_within filter_bytes s (Count lo hi)) none
    (first_calm (bound_limit lo) (bound_limit hi) (bound_calm lo) (bound_calm hi)) (inl refl, none)
answer_is_calm filter_bytes s (Estimate lo hi) none = limit_calm (limit_of (Estimate lo hi)) s (answer_within filter_bytes s (Estimate lo hi)) none
    (first_calm (bound_limit lo) (bound_limit hi) (bound_calm lo) (bound_calm hi)) (inl refl, none)
answer_is_calm filter_bytes s (Explain key) none = limit_calm (key_limit key) s (answer_within filter_bytes s (Explain key)) none (key_calm key) (inl refl, none)
answer_is_calm filter_bytes s Flush none = changed_calm s (flushed filter_bytes s) none (flushed_calm filter_bytes s none)
answer_is_calm filter_bytes s Compact none = changed_calm (without_job s) (compacted filter_bytes s) refl (compacted_with_calm filter_bytes s (changes_of s) none)
answer_is_calm filter_bytes s Quit none = (inr refl, none)
answer_is_calm filter_bytes s (Bad code) none = (inl refl, none)

-- ---- what happens between the lines

abbrev Tends : (Why → Type 0) → FilterBytes → State → Request → Type 0
Tends Cause filter_bytes s request = Between Cause filter_bytes request s Onward (tended filter_bytes request s) × ((tended filter_bytes request s).job ≡ None)

pub tended_between : (Cause : Why → Type 0) (filter_bytes : FilterBytes) (s : State) (request : Request) → s.job ≡ None → Tends Cause filter_bytes s request
tended_between Cause filter_bytes s (Put key value) none = merged_is_a_slice Cause filter_bytes s none
tended_between Cause filter_bytes s (Del key) none = merged_is_a_slice Cause filter_bytes s none
tended_between Cause filter_bytes s (Get key) none = ((refl, refl), none)
tended_between Cause filter_bytes s (Seek lo hi) none = ((refl, refl), none)
tended_between Cause filter_bytes s (Range lo hi n) none = ((refl, refl), none)
tended_between Cause filter_bytes s (Count lo hi) none = ((refl, refl), none)
tended_between Cause filter_bytes s (Estimate lo hi) none = ((refl, refl), none)
tended_between Cause filter_bytes s (Explain key) none = ((refl, refl), none)
tended_between Cause filter_bytes s Flush none = ((refl, refl), none)
tended_between Cause filter_bytes s Compact none = ((refl, refl), none)
tended_between Cause filter_bytes s Quit none = ((refl, refl), none)
tended_between Cause filter_bytes s (Bad code) none = ((refl, refl), none)

-- ---- the script

-- a reply that goes on is before the later ones
behind_onward : (reply : Reply) (later : List Reply × State) (s : State) → turn_of reply ≡ Onward → (reply_then reply later s).0 ≡ reply ∷ later.0
behind_onward Done later s e = refl
behind_onward (Value value) later s e = refl
behind_onward Missing later s e = refl
behind_onward (At key value) later s e = refl
behind_onward (Pairs map last) later s e = refl
behind_onward (End count) later s e = refl
behind_onward (Counted count) later s e = refl
behind_onward (About count) later s e = refl
behind_onward (Explained tables admitted blocks) later s e = refl
behind_onward Bye later s e = absurd cc
behind_onward (BadLine code) later s e = refl
behind_onward (LongKey size) later s e = refl
behind_onward (LongValue size) later s e = refl
behind_onward ManyTables later s e = refl
behind_onward LastEpoch later s e = refl
behind_onward (Full need gap) later s e = refl
behind_onward Memory later s e = refl
behind_onward Device later s e = refl
behind_onward (Damaged damage) later s e = refl

-- these lines are a script with this text
abbrev pub IsScript : (Why → Type 0) → FilterBytes → ℕ → State → List Bytes → Bytes → Type 0
IsScript Cause filter_bytes said s lines text = (ending : Ending) × Script Cause filter_bytes AnyState said s lines text ending

-- the line is answered, and what follows it is a script too
line_played : (Cause : Why → Type 0) (filter_bytes : FilterBytes) (said : ℕ) (s : State) (line : Bytes) (more : List Bytes) (reply : Reply) (new : State) (later : List Reply × State)
    → Step Cause filter_bytes s (request_of line) reply new → GoesOnOrBye reply → Between Cause filter_bytes (request_of line) new Onward (tended filter_bytes (request_of line) new)
    → IsScript Cause filter_bytes (said + length (text_of reply)) (tended filter_bytes (request_of line) new) more (flat_map text_of later.0)
    → IsScript Cause filter_bytes said s (line ∷ more) (flat_map text_of (reply_then reply later new).0)
line_played Cause filter_bytes said s line more reply new later step (inl onward) between rest =
    let text = ap (flat_map text_of) (behind_onward reply later new onward) ∙ flat_map-cons text_of reply later.0 in
    let after = tended filter_bytes (request_of line) new in
    let Next = (turn : Turn) × (after : State) × Between Cause filter_bytes (request_of line) new turn after
    × EndsOr turn (flat_map text_of later.0) rest.0 (Script Cause filter_bytes AnyState (said + length (text_of reply)) after more (flat_map text_of later.0) rest.0) in (
      rest.0,
      (
        reply,
        flat_map text_of later.0,
        new,
        text,
        step,
        subst (λ (t : Turn). AsSaid t (Unit {0})) (sym onward) tt,
        subst (λ (t : Turn). EndsOr t (flat_map text_of later.0) rest.0 Next) (sym onward) (Onward, after, between, rest.1),
      ),
    )
line_played Cause filter_bytes said s line more reply new later step (inr bye) between rest =
    subst (λ (r : Reply). Step Cause filter_bytes s (request_of line) r new → IsScript Cause filter_bytes said s (line ∷ more) (flat_map text_of (reply_then r later new).0)) (sym bye)
    (λ step. (AtQuit, (Bye, [], new, flat_map-cons text_of Bye [], step, tt, (refl, refl)))) step

pub lines_played : (Cause : Why → Type 0) (filter_bytes : FilterBytes) (s : State) (said : ℕ) (lines : List Bytes) → s.job ≡ None → IsScript Cause filter_bytes said s lines (played_text filter_bytes s lines)
lines_played Cause filter_bytes s said [] none = (ToLast, (refl, refl))
lines_played Cause filter_bytes s said (line ∷ more) none =
    let request = request_of line in
    let a = answer filter_bytes s request in
    let calm = answer_is_calm filter_bytes s request none in
    let between = tended_between Cause filter_bytes a.1 request calm.1 in
    line_played Cause filter_bytes said s line more a.0 a.1 (played filter_bytes (tended filter_bytes request a.1) (map request_of more)) answers calm.0 between.0
    (lines_played Cause filter_bytes (tended filter_bytes request a.1) (said + length (text_of a.0)) more between.1)

pub no_job_behind : (filter_bytes : FilterBytes) (s : State) (line : Bytes) → s.job ≡ None
    → ((answer filter_bytes s (request_of line)).1.job ≡ None) × ((tended filter_bytes (request_of line) (answer filter_bytes s (request_of line)).1).job ≡ None)
no_job_behind filter_bytes s line none =
    let calm = answer_is_calm filter_bytes s (request_of line) none in
    (calm.1, (tended_between (λ why. ⊥) filter_bytes (answer filter_bytes s (request_of line)).1 (request_of line) calm.1).1)
