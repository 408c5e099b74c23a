-- An answer tells of no fault, so faults come by their causes alone.
use Rattle.std.proofs.Common.{◌≡◌, List, [], ◌∷◌, ◌++◌, length, refl, sym, ap, ◌∙◌, Bool, true, false, cond}
use Rattle.std.specs.Option.{option_or}
use Rattle.std.specs.Prelude.{Option, Some, None, Result, Ok, Err, nat_le, nat_lt, ◌==◌, ◌||◌, ◌+◌}
use Rattle.key_base.specs.Limits.{last_epoch, max_tables}
use Rattle.map_model.specs.SortedMap.{Bytes, get}
use Rattle.entry_model.specs.Entries.{Entry, put_entry, del_entry}
use Rattle.map_model.specs.Slices.{seek}
use Rattle.state_model.specs.State.{State, without_job}
use Rattle.table_model.specs.Tables.{FilterBytes, Table}
use Rattle.state_model.specs.View.{memory, changes_of, state_map, in_memory}
use Rattle.state_model.specs.Taken.{taken}
use Rattle.state_model.specs.Merges.{NoRoom, placed}
use Rattle.state_model.specs.Changes.{is_long, with_tables, flush_placed, flushed_with, flushed, logged, logged_then, written, compact_placed, compacted_with, compacted, compacted_outputs}
use Rattle.line_model.specs.Limits.{key_limit, value_limit, bound_limit, limit_of}
use Rattle.line_model.specs.Requests.{Request, Put, Del, Get, Seek, Range, Count, Estimate, Explain, Flush, Compact, Quit, Bad}
use Rattle.line_model.specs.Replies.{Reply, LongKey, LongValue, ManyTables, LastEpoch, Pairs, Memory, Device, Damaged, got, found}
use Rattle.state_model.specs.Steps.{Answer, answer, answer_within, done_or_refused, unless_limit, left_by, Step, answers, no_memory, read_failed, damage_met, write_failed}
use Rattle.state_model.specs.Tends.{Tended, Refused, Tend, idle, works, installs, last_epoch_reached, no_room, no_memory as none_for_it, read_failed as not_read, damage_met as was_damaged, write_failed as not_written}
use Rattle.state_model.specs.SoundLaws.{Ever}
use Rattle.state_model.specs.FaultLaws.{KeepsDevice}
use Rattle.range_model.specs.Sources.{Change, Sets, Source}
use Rattle.state_model.specs.Logs.{recorded, need_of, gap_after}

-- ---- an answer tells of no fault

-- whether a reply tells of lack of memory, of a fault of the device, or of damage
abbrev pub is_fault : Reply → Bool
is_fault Memory = true
is_fault Device = true
is_fault (Damaged damage) = true
is_fault (Pairs said end) = is_fault end
is_fault reply = false

abbrev PlainLimit : Option Reply → Type 0
PlainLimit None = Unit {0}
PlainLimit (Some limit) = is_fault limit ≡ false

-- what a change is answered by, and what it keeps
abbrev PlainChange : State → Result State Reply → Type 0
PlainChange s (Ok t) = KeepsDevice s t
PlainChange s (Err refusal) = is_fault refusal ≡ false

abbrev pub PlainAnswer : State → Answer → Type 0
PlainAnswer s a = (is_fault a.0 ≡ false) × KeepsDevice s a.1

key_plain : (key : Bytes) → PlainLimit (key_limit key)
key_plain key = elim (length key == 0 || nat_lt 1024 (length key)) as (λ t. PlainLimit (cond t (Some (LongKey (length key))) None)) [ true ↦ refl | false ↦ tt ]

value_plain : (value : Bytes) → PlainLimit (value_limit value)
value_plain value = elim (nat_lt 1048576 (length value)) as (λ t. PlainLimit (cond t (Some (LongValue (length value))) None)) [ true ↦ refl | false ↦ tt ]

bound_plain : (bound : Bytes) → PlainLimit (bound_limit bound)
bound_plain bound = elim (nat_lt 1024 (length bound)) as (λ t. PlainLimit (cond t (Some (LongKey (length bound))) None)) [ true ↦ refl | false ↦ tt ]

first_plain : (a b : Option Reply) → PlainLimit a → PlainLimit b → PlainLimit (option_or a b)
first_plain (Some limit) b plain other = plain
first_plain None b plain other = other

bounds_plain : (lo hi : Bytes) → PlainLimit (option_or (bound_limit lo) (bound_limit hi))
bounds_plain lo hi = first_plain (bound_limit lo) (bound_limit hi) (bound_plain lo) (bound_plain hi)

limit_plain : (request : Request) → PlainLimit (limit_of request)
limit_plain (Put key value) = first_plain (key_limit key) (value_limit value) (key_plain key) (value_plain value)
limit_plain (Del key) = key_plain key
limit_plain (Get key) = key_plain key
limit_plain (Seek lo None) = bound_plain lo
limit_plain (Seek lo (Some hi)) = bounds_plain lo hi
limit_plain (Range lo hi n) = bounds_plain lo hi
limit_plain (Count lo hi) = bounds_plain lo hi
limit_plain (Estimate lo hi) = bounds_plain lo hi
limit_plain (Explain key) = key_plain key
limit_plain Flush = tt
limit_plain Compact = tt
limit_plain Quit = tt
limit_plain (Bad code) = tt

with_tables_plain : (s : State) (tables : List Table) → PlainChange s (with_tables s tables)
with_tables_plain s tables = elim (s.epoch == last_epoch) as (λ t. PlainChange s (cond t (Err LastEpoch) (Ok (record s { epoch = s.epoch + 1; log = []; tables = tables })))) [ true ↦ refl | false ↦ (refl, refl) ]

flush_placed_plain : (s : State) (done : Result (List Table) NoRoom) → PlainChange s (flush_placed s done)
flush_placed_plain s (Ok made) = with_tables_plain s (made ++ s.tables)
flush_placed_plain s (Err refusal) = refl

flushed_with_plain : (filter_bytes : FilterBytes) (s : State) (source : Source) (entries : List Entry) → PlainChange s (flushed_with filter_bytes s source entries)
flushed_with_plain filter_bytes s source [] = (refl, refl)
flushed_with_plain filter_bytes s source (entry ∷ more) =
    let done = placed filter_bytes s.settings s.pages (taken s) 0 (source ∷ []) in
    elim (nat_le max_tables (length s.tables)) as (λ t. PlainChange s (cond t (Err ManyTables) (flush_placed s done))) [ true ↦ refl | false ↦ flush_placed_plain s done ]

flushed_plain : (filter_bytes : FilterBytes) (s : State) → PlainChange s (flushed filter_bytes s)
flushed_plain filter_bytes s = flushed_with_plain filter_bytes s (in_memory s) (memory s)

logged_then_plain : (s : State) (change : Change) (done : Result State Reply) → PlainChange s done → PlainChange s (logged_then change done)
logged_then_plain s change (Ok t) plain = plain
logged_then_plain s change (Err refusal) plain = plain

short_plain : (filter_bytes : FilterBytes) (s : State) (change : Change) → PlainChange s (cond (nat_le (need_of change) (gap_after s.log)) (Ok (logged s change)) (logged_then change (flushed filter_bytes s)))
short_plain filter_bytes s change = elim (nat_le (need_of change) (gap_after s.log)) as (λ t. PlainChange s (cond t (Ok (logged s change)) (logged_then change (flushed filter_bytes s)))) [
  | true ↦ (refl, refl)
  | false ↦ logged_then_plain s change (flushed filter_bytes s) (flushed_plain filter_bytes s)
]

-- what keeps the device of a state with an entry in its log keeps that of the state
over_plain : (s : State) (change : Change) (done : Result State Reply) → PlainChange (logged s change) done → PlainChange s done
over_plain s change (Ok t) plain = plain
over_plain s change (Err refusal) plain = plain

written_plain : (filter_bytes : FilterBytes) (s : State) (change : Change) → PlainChange s (written filter_bytes s change)
written_plain filter_bytes s change = elim (is_long (recorded change)) as (λ long. PlainChange s
    (cond long (flushed filter_bytes (logged s change)) (cond (nat_le (need_of change) (gap_after s.log)) (Ok (logged s change)) (logged_then change (flushed filter_bytes s))))) [
      | true ↦ over_plain s change (flushed filter_bytes (logged s change)) (flushed_plain filter_bytes (logged s change))
      | false ↦ short_plain filter_bytes s change
    ]

compact_placed_plain : (s : State) (done : Result (List Table) NoRoom) → PlainChange s (compact_placed s done)
compact_placed_plain s (Ok made) = (refl, refl)
compact_placed_plain s (Err refusal) = refl

compacted_plain : (filter_bytes : FilterBytes) (s : State) (changes : List Change) → PlainChange s (compacted_with filter_bytes s changes)
compacted_plain filter_bytes s [] = (refl, refl)
compacted_plain filter_bytes s (change ∷ more) =
    let done = placed filter_bytes s.settings s.pages (taken (without_job s)) 6 (compacted_outputs s) in
    elim (s.epoch == last_epoch) as (λ t. PlainChange s (cond t (Err LastEpoch) (compact_placed s done))) [ true ↦ refl | false ↦ compact_placed_plain s done ]

changed_plain : (s old : State) (done : Result State Reply) → KeepsDevice s old → PlainChange s done → PlainAnswer s (done_or_refused old done)
changed_plain s old (Ok t) kept plain = (refl, plain)
changed_plain s old (Err refusal) kept plain = (plain, kept)

got_plain : (value : Option Bytes) → is_fault (got value) ≡ false
got_plain (Some value) = refl
got_plain None = refl

found_plain : (pair : Option (Bytes × Bytes)) → is_fault (found pair) ≡ false
found_plain (Some pair) = refl
found_plain None = refl

within_plain : (filter_bytes : FilterBytes) (s : State) (request : Request) → PlainAnswer s (answer_within filter_bytes s request)
within_plain filter_bytes s (Put key value) = changed_plain s s (written filter_bytes s (Sets (put_entry key value))) (refl, refl) (written_plain filter_bytes s (Sets (put_entry key value)))
within_plain filter_bytes s (Del key) = changed_plain s s (written filter_bytes s (Sets (del_entry key))) (refl, refl) (written_plain filter_bytes s (Sets (del_entry key)))
within_plain filter_bytes s (Get key) = (got_plain (get (state_map s) key), (refl, refl))
within_plain filter_bytes s (Seek lo hi) = (found_plain (seek (state_map s) lo hi), (refl, refl))
within_plain filter_bytes s (Range lo hi n) = (refl, (refl, refl))
within_plain filter_bytes s (Count lo hi) = (refl, (refl, refl))
within_plain filter_bytes s (Estimate lo hi) = (refl, (refl, refl))
within_plain filter_bytes s (Explain key) = (refl, (refl, refl))
within_plain filter_bytes s Flush = changed_plain s s (flushed filter_bytes s) (refl, refl) (flushed_plain filter_bytes s)
within_plain filter_bytes s Compact = changed_plain s (without_job s) (compacted filter_bytes s) (refl, refl) (compacted_plain filter_bytes s (changes_of s))
within_plain filter_bytes s Quit = (refl, (refl, refl))
within_plain filter_bytes s (Bad code) = (refl, (refl, refl))

unless_plain : (limit : Option Reply) (s : State) (a : Answer) → PlainLimit limit → PlainAnswer s a → PlainAnswer s (unless_limit limit s a)
unless_plain (Some limit) s a plain within = (plain, (refl, refl))
unless_plain None s a plain within = within

pub answer_plain : (filter_bytes : FilterBytes) (s : State) (request : Request) → PlainAnswer s (answer filter_bytes s request)
answer_plain filter_bytes s request = unless_plain (limit_of request) s (answer_within filter_bytes s request) (limit_plain request) (within_plain filter_bytes s request)

-- ---- where faults are met

pub no_fault : (reply fault : Reply) → is_fault reply ≡ false → is_fault fault ≡ true → reply ≡ fault → ⊥
no_fault reply fault plain bad same = let e : false ≡ true = sym plain ∙ ap is_fault same ∙ bad in cc

not_memory : Device ≡ Memory → ⊥
not_memory e = cc

no_damage : (damage : Rattle.byte_fields.specs.declared.parts.Damage.Damage) → Damaged damage ≡ Memory → ⊥
no_damage damage e = cc

pub get_lasts : (filter_bytes : FilterBytes) (s after : State) (key : Bytes) → Step Ever filter_bytes s (Get key) Memory after → ⊥
get_lasts filter_bytes s after key d = (elim d as (λ reply _ _. reply ≡ Memory → ⊥) [
  | answers ↦ no_fault (answer filter_bytes s (Get key)).0 Memory (answer_plain filter_bytes s (Get key)).0 refl
  | no_memory within takes cause ↦ λ _. absurd takes
  | read_failed said within reads cause so ↦ λ e. not_memory (sym so ∙ e)
  | damage_met damage said within reads cause so ↦ λ e. no_damage damage (sym so ∙ e)
  | write_failed new within writes cause left same ↦ not_memory
]) refl

-- ---- what is left

left_keeps : (s : State) (request : Request) → KeepsDevice s (left_by request s)
left_keeps s Compact = (refl, refl)
left_keeps s (Put key value) = (refl, refl)
left_keeps s (Del key) = (refl, refl)
left_keeps s Flush = (refl, refl)
left_keeps s (Get key) = (refl, refl)
left_keeps s (Seek lo hi) = (refl, refl)
left_keeps s (Range lo hi n) = (refl, refl)
left_keeps s (Count lo hi) = (refl, refl)
left_keeps s (Estimate lo hi) = (refl, refl)
left_keeps s (Explain key) = (refl, refl)
left_keeps s Quit = (refl, refl)
left_keeps s (Bad code) = (refl, refl)

pub step_keeps_device : (filter_bytes : FilterBytes) (s after : State) (request : Request) (reply : Reply) → Step Ever filter_bytes s request reply after → KeepsDevice s after
step_keeps_device filter_bytes s after request reply d = elim d as (λ _ new _. KeepsDevice s new) [
  | answers ↦ (answer_plain filter_bytes s request).1
  | no_memory within takes cause ↦ left_keeps s request
  | read_failed said within reads cause so ↦ left_keeps s request
  | damage_met damage said within reads cause so ↦ left_keeps s request
  | write_failed new within writes cause left same ↦ (left.settings, left.pages)
]

pub slice_keeps_device : (filter_bytes : FilterBytes) (s after : State) (tended : Tended) → Tend Ever filter_bytes s tended after → KeepsDevice s after
slice_keeps_device filter_bytes s after tended d = elim d as (λ _ new _. KeepsDevice s new) [
  | idle none chosen ↦ (refl, refl)
  | works job later runs goes other more ↦ (refl, refl)
  | installs job later runs goes done other ↦ (refl, refl)
  | last_epoch_reached job later runs goes done last ↦ (refl, refl)
  | no_room job later refusal runs goes refused ↦ (refl, refl)
  | none_for_it cause ↦ (refl, refl)
  | not_read job runs more cause ↦ (refl, refl)
  | was_damaged job damage runs more cause ↦ (refl, refl)
  | not_written job new runs may cause left same ↦ (left.settings, left.pages)
]

abbrev IfRefused : Tended → Type 0 → Type 0
IfRefused (Refused why) P = P
IfRefused tended P = Unit {0}

slice_left : (filter_bytes : FilterBytes) (s after : State) (tended : Tended) → Tend Ever filter_bytes s tended after → IfRefused tended (after.job ≡ None)
slice_left filter_bytes s after tended d = elim d as (λ t new _. IfRefused t (new.job ≡ None)) [
  | idle none chosen ↦ tt
  | works job later runs goes other more ↦ tt
  | installs job later runs goes done other ↦ tt
  | last_epoch_reached job later runs goes done last ↦ refl
  | no_room job later refusal runs goes refused ↦ refl
  | none_for_it cause ↦ refl
  | not_read job runs more cause ↦ refl
  | was_damaged job damage runs more cause ↦ refl
  | not_written job new runs may cause left same ↦ left.no_job
]

pub refused_slice_left : (filter_bytes : FilterBytes) (s after : State) (why : Reply) → Tend Ever filter_bytes s (Refused why) after → after.job ≡ None
refused_slice_left filter_bytes s after why d = slice_left filter_bytes s after (Refused why) d
