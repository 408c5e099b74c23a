-- Lines that get the replies of one sorted map.
use Rattle.std.proofs.Common.{◌≡◌, ◌≢◌, ◌⊎◌, inl, inr, ◌+◌, ℕ, List, [], ◌∷◌, ◌++◌, refl, sym, ap, ◌∙◌, subst, Bool, true, false, cond}
use Rattle.std.specs.Option.{option_or}
use Rattle.std.specs.Prelude.{Err, None, Ok, Option, Result, Some, ◌==◌, length, nat_le, nat_lt, take}
use Rattle.entry_model.specs.Entries.{Entry, del_entry, put_entry}
use Rattle.key_base.specs.Limits.{is_no_key_length, last_epoch, max_bound_bytes, max_tables, max_value_bytes}
use Rattle.line_model.specs.Limits.{bound_limit, key_limit, limit_of, value_limit}
use Rattle.line_model.specs.Replies.{Damaged, Device, Done, LongKey, LongValue, Memory, Pairs, Reply, text_of}
use Rattle.line_model.specs.Requests.{Bad, Compact, Count, Del, Estimate, Explain, Flush, Get, Put, Quit, Range, Request, Seek, request_of}
use Rattle.map_model.specs.Slices.{slice}
use Rattle.map_model.specs.SortedMap.{Bytes, Map}
use Rattle.range_model.specs.Sources.{Change, Sets, Source}
use Rattle.state_model.proofs.AnyCause.{ever_steps, ever_tends}
use Rattle.state_model.proofs.Lines.{lines_change}
use Rattle.state_model.proofs.OfBytes.{lines_ask}
use Rattle.state_model.proofs.SoundInstalls.{slice_keeps, slice_sound}
use Rattle.state_model.proofs.SoundLines.{step_sound}
use Rattle.state_model.specs.Bounds.{admitted, blocks_read, estimate}
use Rattle.state_model.specs.Causes.{Why}
use Rattle.state_model.specs.Changes.{compact_placed, compacted_with, flush_placed, flushed, flushed_with, is_long, logged, logged_then, with_tables, written}
use Rattle.state_model.specs.Laws.{map_behind}
use Rattle.state_model.specs.Logs.{gap_after, need_of, recorded}
use Rattle.state_model.specs.Merges.{NoRoom}
use Rattle.state_model.specs.Script.{Between, Onward, Over, turn_of}
use Rattle.state_model.specs.Sound.{IsSound}
use Rattle.state_model.specs.SoundLaws.{Ever}
use Rattle.state_model.specs.State.{State, without_job}
use Rattle.state_model.specs.Steps.{Answer, Step, answer, answer_within, answers, damage_met, done_or_refused, left_by, no_memory, read_failed, said_before, unless_limit, write_failed}
use Rattle.state_model.specs.View.{changes_of, in_memory, memory, state_map}
use Rattle.surf_run.specs.Dialogue.{AnsweredLines}
use Rattle.surf_run.specs.OneMap.{IsMapReply, IsRefusal, MapDialogue}
use Rattle.table_model.specs.Tables.{FilterBytes, Table}

-- ---- what is refused, is refused by a refusal

abbrev Refuses : Result State Reply → Type 0
Refuses (Ok s) = Unit {0}
Refuses (Err reply) = IsRefusal reply

either : (t : Bool) (a b : Result State Reply) → Refuses a → Refuses b → Refuses (cond t a b)
either true a b first second = first
either false a b first second = second

tables_refuse : (s : State) (tables : List Table) → Refuses (with_tables s tables)
tables_refuse s tables = either (s.epoch == last_epoch) _ _ (inl refl) tt

flush_refuses : (s : State) (made : Result (List Table) NoRoom) → Refuses (flush_placed s made)
flush_refuses s (Ok made) = tables_refuse s (made ++ s.tables)
flush_refuses s (Err refusal) = inl refl

flushed_refuses : (filter_bytes : FilterBytes) (s : State) (source : Source) (entries : List Entry) → Refuses (flushed_with filter_bytes s source entries)
flushed_refuses filter_bytes s source [] = tt
flushed_refuses filter_bytes s source (entry ∷ more) = either (nat_le max_tables (length s.tables)) _ _ (inl refl) (flush_refuses s _)

logged_refuses : (change : Change) (made : Result State Reply) → Refuses made → Refuses (logged_then change made)
logged_refuses change (Ok s) so = tt
logged_refuses change (Err refusal) so = so

written_refuses : (filter_bytes : FilterBytes) (s : State) (change : Change) → Refuses (written filter_bytes s change)
written_refuses filter_bytes s change =
    either (is_long (recorded change)) _ _ (flushed_refuses filter_bytes (logged s change) (in_memory (logged s change)) (memory (logged s change)))
    (either (nat_le (need_of change) (gap_after s.log)) _ _ tt (logged_refuses change (flushed filter_bytes s) (flushed_refuses filter_bytes s (in_memory s) (memory s))))

placed_refuses : (s : State) (made : Result (List Table) NoRoom) → Refuses (compact_placed s made)
placed_refuses s (Ok made) = tt
placed_refuses s (Err refusal) = inl refl

compacted_refuses : (filter_bytes : FilterBytes) (s : State) (changes : List Change) → Refuses (compacted_with filter_bytes s changes)
compacted_refuses filter_bytes s [] = tt
compacted_refuses filter_bytes s (change ∷ more) = either (s.epoch == last_epoch) _ _ (inl refl) (placed_refuses s _)

-- ---- so are limits

abbrev LimitRefuses : Option Reply → Type 0
LimitRefuses None = Unit {0}
LimitRefuses (Some reply) = IsRefusal reply

limited : (t : Bool) (reply : Reply) → IsRefusal reply → LimitRefuses (cond t (Some reply) None)
limited true reply so = so
limited false reply so = tt

first_refuses : (a b : Option Reply) → LimitRefuses a → LimitRefuses b → LimitRefuses (option_or a b)
first_refuses (Some reply) b first second = first
first_refuses None b first second = second

key_refuses : (key : Bytes) → LimitRefuses (key_limit key)
key_refuses key = limited (is_no_key_length (length key)) (LongKey (length key)) (inl refl)

bound_refuses : (bound : Bytes) → LimitRefuses (bound_limit bound)
bound_refuses bound = limited (nat_lt max_bound_bytes (length bound)) (LongKey (length bound)) (inl refl)

both_refuse : (lo hi : Bytes) → LimitRefuses (option_or (bound_limit lo) (bound_limit hi))
both_refuse lo hi = first_refuses (bound_limit lo) (bound_limit hi) (bound_refuses lo) (bound_refuses hi)

limits_refuse : (request : Request) → LimitRefuses (limit_of request)
limits_refuse (Put key value) =
    first_refuses (key_limit key) (value_limit value) (key_refuses key) (limited (nat_lt max_value_bytes (length value)) (LongValue (length value)) (inl refl))
limits_refuse (Del key) = key_refuses key
limits_refuse (Get key) = key_refuses key
limits_refuse (Seek lo None) = bound_refuses lo
limits_refuse (Seek lo (Some hi)) = both_refuse lo hi
limits_refuse (Range lo hi n) = both_refuse lo hi
limits_refuse (Count lo hi) = both_refuse lo hi
limits_refuse (Estimate lo hi) = both_refuse lo hi
limits_refuse (Explain key) = key_refuses key
limits_refuse Flush = tt
limits_refuse Compact = tt
limits_refuse Quit = tt
limits_refuse (Bad code) = tt

-- ---- an answer is the map's

abbrev IsOf : Map → Request → Reply → Type 0
IsOf map request reply = IsMapReply map request reply ⊎ IsRefusal reply

unless : (limit : Option Reply) (s : State) (a : Answer) (map : Map) (request : Request) → LimitRefuses limit → IsOf map request a.0 → IsOf map request (unless_limit limit s a).0
unless (Some reply) s a map request refuses so = inr refuses
unless None s a map request refuses so = so

done_or : (old : State) (made : Result State Reply) → Refuses made → ((done_or_refused old made).0 ≡ Done) ⊎ IsRefusal (done_or_refused old made).0
done_or old (Ok s) so = inl refl
done_or old (Err reply) so = inr so

within : (filter_bytes : FilterBytes) (s : State) (request : Request) → IsOf (state_map s) request (answer_within filter_bytes s request).0
within filter_bytes s (Put key value) = done_or s _ (written_refuses filter_bytes s (Sets (put_entry key value)))
within filter_bytes s (Del key) = done_or s _ (written_refuses filter_bytes s (Sets (del_entry key)))
within filter_bytes s (Get key) = inl refl
within filter_bytes s (Seek lo hi) = inl refl
within filter_bytes s (Range lo hi n) = inl refl
within filter_bytes s (Count lo hi) = inl refl
within filter_bytes s (Estimate lo hi) = inl (estimate s lo hi, refl)
within filter_bytes s (Explain key) = inl (length s.tables, admitted s key, blocks_read s key, refl)
within filter_bytes s Flush = done_or s _ (flushed_refuses filter_bytes s (in_memory s) (memory s))
within filter_bytes s Compact = done_or (without_job s) _ (compacted_refuses filter_bytes s (changes_of s))
within filter_bytes s Quit = inl refl
within filter_bytes s (Bad code) = inl refl

pub answered : (filter_bytes : FilterBytes) (s : State) (request : Request) → IsOf (state_map s) request (answer filter_bytes s request).0
answered filter_bytes s request = unless (limit_of request) s (answer_within filter_bytes s request) (state_map s) request (limits_refuse request) (within filter_bytes s request)

-- ---- a step that goes on

-- what says a fault does not go on
faulty : (s : State) (request : Request) (why reply : Reply) → turn_of why ≢ Onward → ((found : Map) → turn_of (Pairs found why) ≢ Onward) → said_before s request why reply → turn_of reply ≢ Onward
faulty s (Range lo hi n) why reply last ends (inl so) on = last (ap turn_of (sym so) ∙ on)
faulty s (Range lo hi n) why reply last ends (inr (k, few, so)) on = ends (take k (slice (state_map s) lo (Some hi) n)) (ap turn_of (sym so) ∙ on)
faulty s (Put key value) why reply last ends so on = last (ap turn_of (sym so) ∙ on)
faulty s (Del key) why reply last ends so on = last (ap turn_of (sym so) ∙ on)
faulty s (Get key) why reply last ends so on = last (ap turn_of (sym so) ∙ on)
faulty s (Seek lo hi) why reply last ends so on = last (ap turn_of (sym so) ∙ on)
faulty s (Count lo hi) why reply last ends so on = last (ap turn_of (sym so) ∙ on)
faulty s (Estimate lo hi) why reply last ends so on = last (ap turn_of (sym so) ∙ on)
faulty s (Explain key) why reply last ends so on = last (ap turn_of (sym so) ∙ on)
faulty s Flush why reply last ends so on = last (ap turn_of (sym so) ∙ on)
faulty s Compact why reply last ends so on = last (ap turn_of (sym so) ∙ on)
faulty s Quit why reply last ends so on = last (ap turn_of (sym so) ∙ on)
faulty s (Bad code) why reply last ends so on = last (ap turn_of (sym so) ∙ on)

never_over : (ending : _) → Over ending ≡ Onward → ⊥
never_over ending e = cc

-- what is left has the map of before
pub left_map : (s : State) (request : Request) → state_map (left_by request s) ≡ map_behind request Memory (state_map s)
left_map s (Put key value) = refl
left_map s (Del key) = refl
left_map s (Get key) = refl
left_map s (Seek lo hi) = refl
left_map s (Range lo hi n) = refl
left_map s (Count lo hi) = refl
left_map s (Estimate lo hi) = refl
left_map s (Explain key) = refl
left_map s Flush = refl
left_map s Compact = refl
left_map s Quit = refl
left_map s (Bad code) = refl

abbrev Goes : State → Request → Reply → State → Type 0
Goes s request reply after = turn_of reply ≡ Onward → IsOf (state_map s) request reply × (state_map after ≡ map_behind request reply (state_map s))

step_goes : (filter_bytes : FilterBytes) (s : State) (request : Request) (reply : Reply) (after : State) → Step Ever filter_bytes s request reply after → Goes s request reply after
step_goes filter_bytes s request reply after d = elim d as (λ r new _. Goes s request r new) [
  | answers ↦ λ on. (answered filter_bytes s request, lines_change filter_bytes s request)
  | no_memory fits takes cause ↦ λ on. (inr (inr refl), left_map s request)
  | read_failed said fits reads cause so ↦ λ on. absurd (faulty s request Device said (never_over _) (λ found. never_over _) so on)
  | damage_met damage said fits reads cause so ↦ λ on. absurd (faulty s request (Damaged damage) said (never_over _) (λ found. never_over _) so on)
  | write_failed new fits writes cause left same ↦ λ on. absurd (never_over _ on)
]

-- its reply is `memory`, or it is the state's answer
pub wanted_or_answered : (C : Why → Type 0) (filter_bytes : FilterBytes) (s : State) (request : Request) (reply : Reply) (after : State) → Step C filter_bytes s request reply after
    → turn_of reply ≡ Onward → (reply ≡ Memory) ⊎ (after ≡ (answer filter_bytes s request).1)
wanted_or_answered C filter_bytes s request reply after d = elim d as (λ r new _. turn_of r ≡ Onward → (r ≡ Memory) ⊎ (new ≡ (answer filter_bytes s request).1)) [
  | answers ↦ λ on. inr refl
  | no_memory fits takes cause ↦ λ on. inl refl
  | read_failed said fits reads cause so ↦ λ on. absurd (faulty s request Device said (never_over _) (λ found. never_over _) so on)
  | damage_met damage said fits reads cause so ↦ λ on. absurd (faulty s request (Damaged damage) said (never_over _) (λ found. never_over _) so on)
  | write_failed new fits writes cause left same ↦ λ on. absurd (never_over _ on)
]

-- ---- a merge slice

between_goes : (C : Why → Type 0) (filter_bytes : FilterBytes) (request : Request) (s after : State) → IsSound filter_bytes s → Between C filter_bytes request s Onward after
    → IsSound filter_bytes after × (state_map after ≡ state_map s)
between_goes C filter_bytes (Put key value) s after sound made =
    let slice = ever_tends C filter_bytes s after made.0 made.1 in (slice_sound filter_bytes s after made.0 sound slice, slice_keeps filter_bytes s after made.0 sound slice)
between_goes C filter_bytes (Del key) s after sound made =
    let slice = ever_tends C filter_bytes s after made.0 made.1 in (slice_sound filter_bytes s after made.0 sound slice, slice_keeps filter_bytes s after made.0 sound slice)
between_goes C filter_bytes (Get key) s after sound none = (subst (IsSound filter_bytes) (sym none.1) sound, ap state_map none.1)
between_goes C filter_bytes (Seek lo hi) s after sound none = (subst (IsSound filter_bytes) (sym none.1) sound, ap state_map none.1)
between_goes C filter_bytes (Range lo hi n) s after sound none = (subst (IsSound filter_bytes) (sym none.1) sound, ap state_map none.1)
between_goes C filter_bytes (Count lo hi) s after sound none = (subst (IsSound filter_bytes) (sym none.1) sound, ap state_map none.1)
between_goes C filter_bytes (Estimate lo hi) s after sound none = (subst (IsSound filter_bytes) (sym none.1) sound, ap state_map none.1)
between_goes C filter_bytes (Explain key) s after sound none = (subst (IsSound filter_bytes) (sym none.1) sound, ap state_map none.1)
between_goes C filter_bytes Flush s after sound none = (subst (IsSound filter_bytes) (sym none.1) sound, ap state_map none.1)
between_goes C filter_bytes Compact s after sound none = (subst (IsSound filter_bytes) (sym none.1) sound, ap state_map none.1)
between_goes C filter_bytes Quit s after sound none = (subst (IsSound filter_bytes) (sym none.1) sound, ap state_map none.1)
between_goes C filter_bytes (Bad code) s after sound none = (subst (IsSound filter_bytes) (sym none.1) sound, ap state_map none.1)

-- ---- lines, one after the other

pub one_map : (C : Why → Type 0) (filter_bytes : FilterBytes) (R : ℕ → State → Type 0) (said : ℕ) (s now : State) (lines : List Bytes) (text : Bytes) (most : ℕ)
    → IsSound filter_bytes s → AnsweredLines C filter_bytes R said s lines text most now → MapDialogue (state_map s) lines text (state_map now)
one_map C filter_bytes R said s now [] text most sound went = (went.0, ap state_map went.2)
one_map C filter_bytes R said s now (line ∷ more) text most sound (reply, rest, later, mid, next, is, bound, step, on, holds, behind, goes) =
    let ever = ever_steps C filter_bytes s mid (request_of line) reply step in
    let made = step_goes filter_bytes s (request_of line) reply mid ever on in
    let sound_mid = step_sound filter_bytes s mid (request_of line) reply sound (lines_ask line) ever in
    let slice = between_goes C filter_bytes (request_of line) mid next sound_mid behind in
    (reply, rest, is, made.0, subst (λ (m : Map). MapDialogue m more rest (state_map now)) (slice.1 ∙ made.1) (one_map C filter_bytes R (said + length (text_of reply)) next now more rest later slice.0 goes))
