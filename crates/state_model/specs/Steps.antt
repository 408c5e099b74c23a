-- What one line is answered, and the state that it leaves.
use Rattle.std.specs.Prelude.{◌≡◌, ◌≢◌, ◌⊎◌, ◌<◌, ℕ, [], length, take, Option, Some, None, Result, Ok, Err, IsOk}
use Rattle.byte_fields.specs.declared.parts.Damage.{Damage}
use Rattle.key_base.specs.Limits.{last_epoch, max_level}
use Rattle.map_model.specs.SortedMap.{Map, get}
use Rattle.entry_model.specs.Entries.{put_entry, del_entry}
use Rattle.map_model.specs.Slices.{slice, seek, count}
use Rattle.state_model.specs.State.{State, without_job}
use Rattle.range_model.specs.Sources.{Sets}
use Rattle.state_model.specs.View.{memory, changes_of, state_map}
use Rattle.table_model.specs.Tables.{FilterBytes}
use Rattle.state_model.specs.Changes.{written, flushed, compacted, compacted_outputs}
use Rattle.state_model.specs.Merges.{placed}
use Rattle.state_model.specs.Taken.{taken}
use Rattle.line_model.specs.Limits.{limit_of}
use Rattle.state_model.specs.Bounds.{get_bound, seek_bound, tables_between, estimate, admitted, blocks_read}
use Rattle.state_model.specs.Sound.{IsLeft}
use Rattle.state_model.specs.Causes.{Why, NoMemory, ReadFailed, WriteFailed, DamageMet}
use Rattle.line_model.specs.Requests.{Request, Put, Del, Get, Seek, Range, Count, Estimate, Explain, Flush, Compact, Quit, Bad}
use Rattle.line_model.specs.Replies.{Reply, Done, Pairs, End, Counted, About, Explained, Bye, BadLine, Memory, Device, Damaged, got, found}

abbrev pub Answer : Type 0
Answer = Reply × State

-- ---- the answer where memory lasts and the device holds

-- a change is done, or refused and nothing changes but what is left here
abbrev pub done_or_refused : State → Result State Reply → Answer
done_or_refused old (Ok new) = (Done, new)
done_or_refused old (Err refusal) = (refusal, old)

abbrev pub pairs : Map → Reply
pairs map = Pairs map (End (length map))

-- the answer to a request that breaks no limit
abbrev pub answer_within : FilterBytes → State → Request → Answer
answer_within filter_bytes s (Put key value) = done_or_refused s (written filter_bytes s (Sets (put_entry key value)))
answer_within filter_bytes s (Del key) = done_or_refused s (written filter_bytes s (Sets (del_entry key)))
answer_within filter_bytes s (Get key) = (got (get (state_map s) key), s)
answer_within filter_bytes s (Seek lo hi) = (found (seek (state_map s) lo hi), s)
answer_within filter_bytes s (Range lo hi n) = (pairs (slice (state_map s) lo (Some hi) n), s)
answer_within filter_bytes s (Count lo hi) = (Counted (count (state_map s) lo (Some hi)), s)
answer_within filter_bytes s (Estimate lo hi) = (About (estimate s lo hi), s)
answer_within filter_bytes s (Explain key) = (Explained (length s.tables) (admitted s key) (blocks_read s key), s)
answer_within filter_bytes s Flush = done_or_refused s (flushed filter_bytes s)
answer_within filter_bytes s Compact = done_or_refused (without_job s) (compacted filter_bytes s)
answer_within filter_bytes s Quit = (Bye, s)
answer_within filter_bytes s (Bad code) = (BadLine code, s)

abbrev pub unless_limit : Option Reply → State → Answer → Answer
unless_limit (Some limit) s answer = (limit, s)
unless_limit None s answer = answer

abbrev pub answer : FilterBytes → State → Request → Answer
answer filter_bytes s request = unless_limit (limit_of request) s (answer_within filter_bytes s request)

-- ---- what the state does not explain

-- the state after a refused request: a compaction has dropped the job
abbrev pub left_by : Request → State → State
left_by Compact s = without_job s
left_by request s = s

-- a compaction is begun where there are changes, and a next epoch
abbrev pub IsBegun : State → Type 0
IsBegun s = (changes_of s ≢ []) × (s.epoch ≢ last_epoch)

-- the requests that take memory: a flush where there is something to write, a compaction that is begun
abbrev pub TakesMemory : State → Request → Type 0
TakesMemory s (Get key) = ⊥
TakesMemory s (Estimate lo hi) = ⊥
TakesMemory s (Explain key) = ⊥
TakesMemory s Flush = memory s ≢ []
TakesMemory s Compact = IsBegun s
TakesMemory s Quit = ⊥
TakesMemory s (Bad code) = ⊥
TakesMemory s request = Unit {0}

-- A put, a del and a flush write where they are not refused, a flush where there is something to flush. A compaction that
-- is begun writes where its first table has room, also where it is refused in the end.
abbrev pub Writes : FilterBytes → State → Request → Type 0
Writes filter_bytes s (Put key value) = IsOk (written filter_bytes s (Sets (put_entry key value)))
Writes filter_bytes s (Del key) = IsOk (written filter_bytes s (Sets (del_entry key)))
Writes filter_bytes s Flush = (memory s ≢ []) × IsOk (flushed filter_bytes s)
Writes filter_bytes s Compact = IsBegun s × IsOk (placed filter_bytes s.settings s.pages (taken (without_job s)) max_level (take 1 (compacted_outputs s)))
Writes filter_bytes s request = ⊥

-- A get and a closed seek read where their bounds allow a block; a count where a table admits the bounds, and so does a range
-- that asks for pairs; an open seek where there are tables, and so does a compaction that is begun.
abbrev pub Reads : State → Request → Type 0
Reads s (Get key) = 0 < get_bound s key
Reads s (Seek lo None) = s.tables ≢ []
Reads s (Seek lo (Some hi)) = 0 < seek_bound s lo hi
Reads s (Range lo hi n) = (0 < n) × (0 < tables_between s lo hi)
Reads s (Count lo hi) = 0 < tables_between s lo hi
Reads s Compact = IsBegun s × (s.tables ≢ [])
Reads s request = ⊥

-- the pairs that a range has said before a fault: fewer than it asks for
abbrev pub said_before : State → Request → Reply → Reply → Type 0
said_before s (Range lo hi n) why reply = (reply ≡ why) ⊎ ((k : ℕ) × (k < n) × (reply ≡ Pairs (take k (slice (state_map s) lo (Some hi) n)) why))
said_before s request why reply = reply ≡ why

-- From a state a request is answered so, and leaves that state. `Cause` says what must be so for what the state does not
-- explain. After a failed write the state has the map before the line or after it.
pub data Step (Cause : Why → Type 0) (filter_bytes : FilterBytes) (s : State) (request : Request) : Reply → State → Type 0 where
  answers : Step Cause filter_bytes s request (answer filter_bytes s request).0 (answer filter_bytes s request).1
  no_memory : limit_of request ≡ None → TakesMemory s request → Cause NoMemory → Step Cause filter_bytes s request Memory (left_by request s)
  read_failed : (reply : Reply) → limit_of request ≡ None → Reads s request → Cause ReadFailed → said_before s request Device reply
      → Step Cause filter_bytes s request reply (left_by request s)
  damage_met : (damage : Damage) (reply : Reply) → limit_of request ≡ None → Reads s request → Cause (DamageMet damage)
      → said_before s request (Damaged damage) reply → Step Cause filter_bytes s request reply (left_by request s)
  write_failed : (after : State) → limit_of request ≡ None → Writes filter_bytes s request → Cause WriteFailed → IsLeft filter_bytes s after
      → (state_map after ≡ state_map s) ⊎ (state_map after ≡ state_map (answer filter_bytes s request).1)
      → Step Cause filter_bytes s request Device after
