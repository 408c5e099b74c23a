-- What each line makes of the map.
use Rattle.std.proofs.Common.{◌≡◌, refl, sym, ap, Bool, true, false, cond}
use Rattle.std.specs.Option.{option_or}
use Rattle.std.specs.Prelude.{Option, Some, None, Result, Ok, Err, nat_lt, length, ◌==◌, ◌||◌}
use Rattle.map_model.specs.SortedMap.{Bytes, put, del}
use Rattle.entry_model.specs.Entries.{put_entry, del_entry}
use Rattle.state_model.specs.State.{State, without_job}
use Rattle.state_model.specs.View.{state_map}
use Rattle.table_model.specs.Tables.{FilterBytes}
use Rattle.state_model.specs.Changes.{flushed, written, compacted}
use Rattle.line_model.specs.Limits.{key_limit, value_limit, limit_of}
use Rattle.line_model.specs.Requests.{Request, Put, Del, Get, Seek, Range, Count, Estimate, Explain, Flush, Compact, Quit, Bad}
use Rattle.line_model.specs.Replies.{Reply, LongKey, LongValue}
use Rattle.state_model.specs.Steps.{Answer, answer, answer_within, done_or_refused, unless_limit}
use Rattle.state_model.specs.Laws.{is_done, map_behind}
use Rattle.state_model.proofs.Kept.{IfDone, KeepsMap, Makes, flushed_done, written_done, compacted_done}
use Rattle.range_model.specs.Sources.{Sets}

-- the answer leaves the map that its line and reply tell
abbrev Leaves : State → Request → Answer → Type 0
Leaves s request a = state_map a.1 ≡ map_behind request a.0 (state_map s)

-- a limit leaves the state as it was
abbrev IsLimit : Option Reply → Type 0
IsLimit None = Unit {0}
IsLimit (Some reply) = is_done reply ≡ false

key_limited : (key : Bytes) → IsLimit (key_limit key)
key_limited key = elim (length key == 0 || nat_lt 1024 (length key)) as (λ t. IsLimit (cond t (Some (LongKey (length key))) None)) [ true ↦ refl | false ↦ tt ]

value_limited : (value : Bytes) → IsLimit (value_limit value)
value_limited value = elim (nat_lt 1048576 (length value)) as (λ t. IsLimit (cond t (Some (LongValue (length value))) None)) [ true ↦ refl | false ↦ tt ]

first_limited : (a b : Option Reply) → IsLimit a → IsLimit b → IsLimit (option_or a b)
first_limited (Some reply) b limited other = limited
first_limited None b limited other = other

put_limited : (s : State) (key value : Bytes) (limit : Option Reply) (a : Answer) → IsLimit limit → Leaves s (Put key value) a → Leaves s (Put key value) (unless_limit limit s a)
put_limited s key value (Some reply) a limited leaves = sym (ap (λ (t : Bool). cond t (put (state_map s) key value) (state_map s)) limited)
put_limited s key value None a limited leaves = leaves

del_limited : (s : State) (key : Bytes) (limit : Option Reply) (a : Answer) → IsLimit limit → Leaves s (Del key) a → Leaves s (Del key) (unless_limit limit s a)
del_limited s key (Some reply) a limited leaves = sym (ap (λ (t : Bool). cond t (del (state_map s) key) (state_map s)) limited)
del_limited s key None a limited leaves = leaves

put_changed : (s : State) (key value : Bytes) (done : Result State Reply) → IfDone (Makes (state_map s) (Sets (put_entry key value))) done → Leaves s (Put key value) (done_or_refused s done)
put_changed s key value (Ok t) so = so
put_changed s key value (Err refusal) so = sym (ap (λ (t : Bool). cond t (put (state_map s) key value) (state_map s)) so)

del_changed : (s : State) (key : Bytes) (done : Result State Reply) → IfDone (Makes (state_map s) (Sets (del_entry key))) done → Leaves s (Del key) (done_or_refused s done)
del_changed s key (Ok t) so = so
del_changed s key (Err refusal) so = sym (ap (λ (t : Bool). cond t (del (state_map s) key) (state_map s)) so)

-- a change that keeps the map leaves it, done or not
kept : (s old : State) (done : Result State Reply) → state_map old ≡ state_map s → IfDone (KeepsMap s) done → state_map (done_or_refused old done).1 ≡ state_map s
kept s old (Ok t) same so = so
kept s old (Err refusal) same so = same

-- a read leaves the state, refused or not
read_kept : (s : State) (limit : Option Reply) (reply : Reply) → state_map (unless_limit limit s (reply, s)).1 ≡ state_map s
read_kept s (Some refusal) reply = refl
read_kept s None reply = refl

pub lines_change : (filter_bytes : FilterBytes) (s : State) (request : Request) → state_map (answer filter_bytes s request).1 ≡ map_behind request (answer filter_bytes s request).0 (state_map s)
lines_change filter_bytes s (Put key value) = put_limited s key value (limit_of (Put key value)) (done_or_refused s (written filter_bytes s (Sets (put_entry key value))))
    (first_limited (key_limit key) (value_limit value) (key_limited key) (value_limited value))
    (put_changed s key value (written filter_bytes s (Sets (put_entry key value))) (written_done filter_bytes s (Sets (put_entry key value))))
lines_change filter_bytes s (Del key) = del_limited s key (key_limit key) (done_or_refused s (written filter_bytes s (Sets (del_entry key)))) (key_limited key)
    (del_changed s key (written filter_bytes s (Sets (del_entry key))) (written_done filter_bytes s (Sets (del_entry key))))
lines_change filter_bytes s (Get key) = read_kept s (key_limit key) (answer_within filter_bytes s (Get key)).0
lines_change filter_bytes s (Seek lo None) = read_kept s (limit_of (Seek lo None)) (answer_within filter_bytes s (Seek lo None)).0
lines_change filter_bytes s (Seek lo (Some hi)) = read_kept s (limit_of (Seek lo (Some hi))) (answer_within filter_bytes s (Seek lo (Some hi))).0
lines_change filter_bytes s (Range lo hi n) = read_kept s (limit_of (Range lo hi n)) (answer_within filter_bytes s (Range lo hi n)).0
lines_change filter_bytes s (Count lo hi) = read_kept s (limit_of (Count lo hi)) (answer_within filter_bytes s (Count lo hi)).0
lines_change filter_bytes s (Estimate lo hi) = read_kept s (limit_of (Estimate lo hi)) (answer_within filter_bytes s (Estimate lo hi)).0
lines_change filter_bytes s (Explain key) = read_kept s (key_limit key) (answer_within filter_bytes s (Explain key)).0
lines_change filter_bytes s Flush = kept s s (flushed filter_bytes s) refl (flushed_done filter_bytes s)
lines_change filter_bytes s Compact = kept s (without_job s) (compacted filter_bytes s) refl (compacted_done filter_bytes s)
lines_change filter_bytes s Quit = refl
lines_change filter_bytes s (Bad code) = refl
