-- Whatever a line is answered leaves a sound state.
use Rattle.std.proofs.Common.{◌≡◌, ◌≤◌, List, [], ◌∷◌, length, refl, true, false, cond, arith}
use Rattle.std.specs.Option.{option_or}
use Rattle.std.specs.List.{AllByRecursion}
use Rattle.std.specs.Prelude.{Option, Some, None, Result, Ok, Err, nat_lt, ◌==◌, ◌||◌}
use Rattle.byte_fields.specs.Spelling.{IsBytes}
use Rattle.map_model.specs.SortedMap.{Bytes}
use Rattle.entry_model.specs.Entries.{IsEntry, del_entry, put_entry}
use Rattle.state_model.specs.State.{State, without_job}
use Rattle.table_model.specs.Tables.{FilterBytes}
use Rattle.state_model.specs.Changes.{written, flushed, compacted}
use Rattle.line_model.specs.Limits.{key_limit, value_limit, limit_of}
use Rattle.line_model.specs.Requests.{Request, Put, Del, Get, Seek, Range, Count, Estimate, Explain, Flush, Compact, Quit, Bad}
use Rattle.line_model.specs.Replies.{Reply, Done, Value, Missing, At, Pairs, End, Counted, About, Explained, Bye, BadLine, LongKey, LongValue, ManyTables, LastEpoch, Full, Memory, Device, Damaged}
use Rattle.state_model.specs.Steps.{answer, answer_within, done_or_refused, unless_limit, left_by, Step, answers, no_memory, read_failed, damage_met, write_failed}
use Rattle.state_model.specs.Play.{merged, tended, reply_then, played}
use Rattle.state_model.specs.Sound.{IsSound}
use Rattle.state_model.proofs.Wholes.{merged_is_a_slice}
use Rattle.state_model.proofs.Plays.{answer_is_calm, tended_between}
use Rattle.state_model.proofs.SoundInstalls.{slice_sound}
use Rattle.state_model.specs.SoundLaws.{AsksOfBytes, Ever}
use Rattle.state_model.proofs.SoundChanges.{IfSound, flushed_done, written_done}
use Rattle.state_model.proofs.SoundCompaction.{compacted_done}
use Rattle.state_model.proofs.SoundJobs.{drop_sound}
use Rattle.range_model.specs.Sources.{Sets}

-- ---- within the limits

key_within : (key : Bytes) → key_limit key ≡ None → (1 ≤ length key) × (length key ≤ 1024)
key_within key e = elim (length key == 0 || nat_lt 1024 (length key)) as (λ b. (length key == 0 || nat_lt 1024 (length key)) ≡ b → cond b (Some (LongKey (length key))) None ≡ None → (1 ≤ length key) × (length key ≤ 1024)) [
  | true ↦ λ _ bad. absurd cc
  | false ↦ λ off _. (grind arith, grind arith)
] refl e

value_within : (value : Bytes) → value_limit value ≡ None → length value ≤ 1048576
value_within value e = elim (nat_lt 1048576 (length value)) as (λ b. nat_lt 1048576 (length value) ≡ b → cond b (Some (LongValue (length value))) None ≡ None → length value ≤ 1048576) [
  | true ↦ λ _ bad. absurd cc
  | false ↦ λ off _. grind arith
] refl e

first_within : (a b : Option Reply) → option_or a b ≡ None → (a ≡ None) × (b ≡ None)
first_within (Some limit) b e = absurd cc
first_within None b e = (refl, e)

put_within : (key value : Bytes) → option_or (key_limit key) (value_limit value) ≡ None → IsBytes key → IsBytes value → IsEntry (put_entry key value)
put_within key value e of_key of_value =
    let both = first_within (key_limit key) (value_limit value) e in
    let keys = key_within key both.0 in
    let short = value_within value both.1 in
    record { some_key = keys.0; short_key = keys.1; short_value = short; key_bytes = of_key; value_bytes = of_value }

del_within : (key : Bytes) → key_limit key ≡ None → IsBytes key → IsEntry (del_entry key)
del_within key e of_key = let keys = key_within key e in record { some_key = keys.0; short_key = keys.1; short_value = omega arith; key_bytes = of_key; value_bytes = λ i. omega arith }

-- ---- the answer

changed_sound : (filter_bytes : FilterBytes) (old : State) (done : Result State Reply) → IsSound filter_bytes old → IfSound filter_bytes done → IsSound filter_bytes (done_or_refused old done).1
changed_sound filter_bytes old (Ok t) sound new = new
changed_sound filter_bytes old (Err refusal) sound new = sound

within_sound : (filter_bytes : FilterBytes) (s : State) (request : Request) → IsSound filter_bytes s → AsksOfBytes request → limit_of request ≡ None → IsSound filter_bytes (answer_within filter_bytes s request).1
within_sound filter_bytes s (Put key value) sound asks e = changed_sound filter_bytes s (written filter_bytes s (Sets (put_entry key value))) sound (written_done filter_bytes s (Sets (put_entry key value)) sound (put_within key value e asks.0 asks.1))
within_sound filter_bytes s (Del key) sound asks e = changed_sound filter_bytes s (written filter_bytes s (Sets (del_entry key))) sound (written_done filter_bytes s (Sets (del_entry key)) sound (del_within key e asks))
within_sound filter_bytes s Flush sound asks e = changed_sound filter_bytes s (flushed filter_bytes s) sound (flushed_done filter_bytes s sound)
within_sound filter_bytes s Compact sound asks e = changed_sound filter_bytes (without_job s) (compacted filter_bytes s) (drop_sound filter_bytes s sound) (compacted_done filter_bytes s sound)
within_sound filter_bytes s (Get key) sound asks e = sound
within_sound filter_bytes s (Seek lo hi) sound asks e = sound
within_sound filter_bytes s (Range lo hi n) sound asks e = sound
within_sound filter_bytes s (Count lo hi) sound asks e = sound
within_sound filter_bytes s (Estimate lo hi) sound asks e = sound
within_sound filter_bytes s (Explain key) sound asks e = sound
within_sound filter_bytes s Quit sound asks e = sound
within_sound filter_bytes s (Bad code) sound asks e = sound

answer_sound : (filter_bytes : FilterBytes) (s : State) (request : Request) → IsSound filter_bytes s → AsksOfBytes request → IsSound filter_bytes (answer filter_bytes s request).1
answer_sound filter_bytes s request sound asks = by_limit (limit_of request) refl
  where
    by_limit : (limit : Option Reply) → limit_of request ≡ limit → IsSound filter_bytes (unless_limit limit s (answer_within filter_bytes s request)).1
    by_limit (Some limit) e = sound
    by_limit None e = within_sound filter_bytes s request sound asks e

left_sound : (filter_bytes : FilterBytes) (s : State) (request : Request) → IsSound filter_bytes s → IsSound filter_bytes (left_by request s)
left_sound filter_bytes s Compact sound = drop_sound filter_bytes s sound
left_sound filter_bytes s (Put key value) sound = sound
left_sound filter_bytes s (Del key) sound = sound
left_sound filter_bytes s Flush sound = sound
left_sound filter_bytes s (Get key) sound = sound
left_sound filter_bytes s (Seek lo hi) sound = sound
left_sound filter_bytes s (Range lo hi n) sound = sound
left_sound filter_bytes s (Count lo hi) sound = sound
left_sound filter_bytes s (Estimate lo hi) sound = sound
left_sound filter_bytes s (Explain key) sound = sound
left_sound filter_bytes s Quit sound = sound
left_sound filter_bytes s (Bad code) sound = sound

pub step_sound : (filter_bytes : FilterBytes) (s after : State) (request : Request) (reply : Reply) → IsSound filter_bytes s → AsksOfBytes request → Step Ever filter_bytes s request reply after → IsSound filter_bytes after
step_sound filter_bytes s after request reply sound asks d = elim d as (λ _ new _. IsSound filter_bytes new) [
  | answers ↦ answer_sound filter_bytes s request sound asks
  | no_memory within takes cause ↦ left_sound filter_bytes s request sound
  | read_failed said within reads cause so ↦ left_sound filter_bytes s request sound
  | damage_met damage said within reads cause so ↦ left_sound filter_bytes s request sound
  | write_failed new within writes cause left same ↦ left.sound
]

-- ---- lines that are played

tended_sound : (filter_bytes : FilterBytes) (s : State) (request : Request) → IsSound filter_bytes s → s.job ≡ None → IsSound filter_bytes (tended filter_bytes request s)
tended_sound filter_bytes s (Put key value) sound none = let slice = merged_is_a_slice Ever filter_bytes s none in slice_sound filter_bytes s (merged filter_bytes s) slice.0.0 sound slice.0.1
tended_sound filter_bytes s (Del key) sound none = let slice = merged_is_a_slice Ever filter_bytes s none in slice_sound filter_bytes s (merged filter_bytes s) slice.0.0 sound slice.0.1
tended_sound filter_bytes s Flush sound none = sound
tended_sound filter_bytes s Compact sound none = sound
tended_sound filter_bytes s (Get key) sound none = sound
tended_sound filter_bytes s (Seek lo hi) sound none = sound
tended_sound filter_bytes s (Range lo hi n) sound none = sound
tended_sound filter_bytes s (Count lo hi) sound none = sound
tended_sound filter_bytes s (Estimate lo hi) sound none = sound
tended_sound filter_bytes s (Explain key) sound none = sound
tended_sound filter_bytes s Quit sound none = sound
tended_sound filter_bytes s (Bad code) sound none = sound

behind_sound : (filter_bytes : FilterBytes) (reply : Reply) (later : List Reply × State) (s : State) → IsSound filter_bytes later.1 → IsSound filter_bytes s → IsSound filter_bytes (reply_then reply later s).1
behind_sound filter_bytes Bye later s after here = here
behind_sound filter_bytes Done later s after here = after
behind_sound filter_bytes (Value value) later s after here = after
behind_sound filter_bytes Missing later s after here = after
behind_sound filter_bytes (At key value) later s after here = after
behind_sound filter_bytes (Pairs map last) later s after here = after
behind_sound filter_bytes (End count) later s after here = after
behind_sound filter_bytes (Counted count) later s after here = after
behind_sound filter_bytes (About count) later s after here = after
behind_sound filter_bytes (Explained tables admitted blocks) later s after here = after
behind_sound filter_bytes (BadLine code) later s after here = after
behind_sound filter_bytes (LongKey size) later s after here = after
behind_sound filter_bytes (LongValue size) later s after here = after
behind_sound filter_bytes ManyTables later s after here = after
behind_sound filter_bytes LastEpoch later s after here = after
behind_sound filter_bytes (Full need gap) later s after here = after
behind_sound filter_bytes Memory later s after here = after
behind_sound filter_bytes Device later s after here = after
behind_sound filter_bytes (Damaged damage) later s after here = after

pub played_sound : (filter_bytes : FilterBytes) (s : State) (requests : List Request) → IsSound filter_bytes s → AllByRecursion AsksOfBytes requests → s.job ≡ None → IsSound filter_bytes (played filter_bytes s requests).1
played_sound filter_bytes s [] sound asks none = sound
played_sound filter_bytes s (request ∷ more) sound asks none =
    let a = answer filter_bytes s request in
    let calm = answer_is_calm filter_bytes s request none in
    let here = answer_sound filter_bytes s request sound asks.0 in
    behind_sound filter_bytes a.0 (played filter_bytes (tended filter_bytes request a.1) more) a.1
    (played_sound filter_bytes (tended filter_bytes request a.1) more (tended_sound filter_bytes a.1 request here calm.1) asks.1 (tended_between Ever filter_bytes a.1 request calm.1).1) here
