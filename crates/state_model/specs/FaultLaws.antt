-- Laws of what the state does not explain: where it may be met, and what it leaves.
use Rattle.std.specs.Prelude.{◌≡◌, ◌⊎◌, ◌<◌, ℕ, Bool, true, false, [], take, Some, None, Err}
use Rattle.byte_fields.specs.declared.parts.Damage.{Damage}
use Rattle.key_base.specs.Limits.{last_epoch, max_level}
use Rattle.map_model.specs.SortedMap.{Bytes, Map}
use Rattle.map_model.specs.Slices.{slice}
use Rattle.entry_model.specs.Entries.{put_entry, del_entry}
use Rattle.state_model.specs.State.{State, Job, without_job}
use Rattle.range_model.specs.Sources.{Sets}
use Rattle.state_model.specs.View.{memory, changes_of, state_map}
use Rattle.state_model.specs.Bounds.{get_bound, seek_bound, tables_between}
use Rattle.state_model.specs.Changes.{written, flushed, compacted_outputs}
use Rattle.state_model.specs.Merges.{NoRoom, placed}
use Rattle.state_model.specs.Taken.{taken}
use Rattle.table_model.specs.Tables.{FilterBytes}
use Rattle.state_model.specs.Causes.{Why, NoMemory, ReadFailed, WriteFailed, DamageMet}
use Rattle.line_model.specs.Requests.{Request, Put, Del, Get, Seek, Range, Count, Estimate, Explain, Flush, Compact, Quit, Bad}
use Rattle.line_model.specs.Replies.{Reply, Pairs, Bye, BadLine, Memory, Device, Damaged}
use Rattle.state_model.specs.Laws.{map_behind}
use Rattle.state_model.specs.Tends.{Tend, Tended, Refused, Runs, next_placed, outstanding}
use Rattle.state_model.specs.Steps.{Step, answer}
use Rattle.state_model.specs.Sound.{IsSound, IsLeft}
use Rattle.state_model.specs.SoundLaws.{Ever}

-- nothing may be but this
abbrev pub Only : Why → Why → Type 0
Only allowed why = why ≡ allowed

-- the step is the answer, which tells of no fault
abbrev pub IsAnswered : FilterBytes → State → Request → Reply → State → Type 0
IsAnswered filter_bytes s request reply after = (reply ≡ (answer filter_bytes s request).0) × (after ≡ (answer filter_bytes s request).1)

-- any failed read and any damage, and no other cause
abbrev pub OfReads : Why → Type 0
OfReads ReadFailed = Unit {0}
OfReads (DamageMet damage) = Unit {0}
OfReads why = ⊥

-- any cause but lack of memory
abbrev pub OfDevice : Why → Type 0
OfDevice NoMemory = ⊥
OfDevice why = Unit {0}

-- the requests that may write
abbrev pub is_change : Request → Bool
is_change (Put key value) = true
is_change (Del key) = true
is_change Flush = true
is_change Compact = true
is_change request = false

-- No lack of memory is met by a get, no failed read and no damage by a put, a del and a flush, and no failed write by what
-- asks for no change. An estimate and an explain meet nothing.
pub record FaultsAreMet : Type 0 where
  pub get_takes_none : (filter_bytes : FilterBytes) (s after : State) (key : Bytes) → Step Ever filter_bytes s (Get key) Memory after → ⊥
  pub estimate_is_answered :
      (filter_bytes : FilterBytes) (s after : State) (reply : Reply) (lo hi : Bytes) → Step Ever filter_bytes s (Estimate lo hi) reply after
      → IsAnswered filter_bytes s (Estimate lo hi) reply after
  pub explain_is_answered :
      (filter_bytes : FilterBytes) (s after : State) (reply : Reply) (key : Bytes) → Step Ever filter_bytes s (Explain key) reply after
      → IsAnswered filter_bytes s (Explain key) reply after
  pub put_reads_nothing :
      (filter_bytes : FilterBytes) (s after : State) (reply : Reply) (key value : Bytes)
      → Step OfReads filter_bytes s (Put key value) reply after → IsAnswered filter_bytes s (Put key value) reply after
  pub del_reads_nothing :
      (filter_bytes : FilterBytes) (s after : State) (reply : Reply) (key : Bytes)
      → Step OfReads filter_bytes s (Del key) reply after → IsAnswered filter_bytes s (Del key) reply after
  pub flush_reads_nothing :
      (filter_bytes : FilterBytes) (s after : State) (reply : Reply)
      → Step OfReads filter_bytes s Flush reply after → IsAnswered filter_bytes s Flush reply after
  pub others_write_nothing :
      (filter_bytes : FilterBytes) (s after : State) (request : Request) (reply : Reply) → is_change request ≡ false
      → Step (Only WriteFailed) filter_bytes s request reply after → IsAnswered filter_bytes s request reply after

-- the first of the pairs that the range asks for, and not as many
abbrev pub IsSaidOf : State → Bytes → Bytes → ℕ → Map → Type 0
IsSaidOf s lo hi n said = (k : ℕ) × (k < n) × (said ≡ take k (slice (state_map s) lo (Some hi) n))

-- No step meets a cause that the state rules out here: what is refused writes nothing, nor does a compaction whose first
-- table has no room; a flush and a compaction of nothing touch no device; nothing is read where the bound allows no block,
-- nor for no pairs, nor without tables. What a range has said as a read fails are first pairs of its answer.
pub record FaultsHaveCauses : Type 0 where
  pub refused_put :
      (filter_bytes : FilterBytes) (s after : State) (reply : Reply) (key value : Bytes) (why : Reply) → written filter_bytes s (Sets (put_entry key value)) ≡ Err why → Step OfDevice filter_bytes s (Put key value) reply after
      → IsAnswered filter_bytes s (Put key value) reply after
  pub refused_del :
      (filter_bytes : FilterBytes) (s after : State) (reply : Reply) (key : Bytes) (why : Reply) → written filter_bytes s (Sets (del_entry key)) ≡ Err why → Step OfDevice filter_bytes s (Del key) reply after
      → IsAnswered filter_bytes s (Del key) reply after
  pub refused_flush :
      (filter_bytes : FilterBytes) (s after : State) (reply : Reply) (why : Reply) → flushed filter_bytes s ≡ Err why → Step OfDevice filter_bytes s Flush reply after
      → IsAnswered filter_bytes s Flush reply after
  pub flush_of_nothing :
      (filter_bytes : FilterBytes) (s after : State) (reply : Reply) → memory s ≡ [] → Step Ever filter_bytes s Flush reply after
      → IsAnswered filter_bytes s Flush reply after
  pub compaction_of_nothing :
      (filter_bytes : FilterBytes) (s after : State) (reply : Reply) → changes_of s ≡ [] → Step Ever filter_bytes s Compact reply after
      → IsAnswered filter_bytes s Compact reply after
  pub compaction_at_the_last_epoch :
      (filter_bytes : FilterBytes) (s after : State) (reply : Reply) → s.epoch ≡ last_epoch → Step Ever filter_bytes s Compact reply after
      → IsAnswered filter_bytes s Compact reply after
  pub compaction_without_tables :
      (filter_bytes : FilterBytes) (s after : State) (reply : Reply) → s.tables ≡ [] → Step OfReads filter_bytes s Compact reply after
      → IsAnswered filter_bytes s Compact reply after
  pub compaction_without_room :
      (filter_bytes : FilterBytes) (s after : State) (reply : Reply) (refusal : NoRoom)
      → placed filter_bytes s.settings s.pages (taken (without_job s)) max_level (take 1 (compacted_outputs s)) ≡ Err refusal
      → Step (Only WriteFailed) filter_bytes s Compact reply after → IsAnswered filter_bytes s Compact reply after
  pub get_of_no_block :
      (filter_bytes : FilterBytes) (s after : State) (reply : Reply) (key : Bytes) → get_bound s key ≡ 0 → Step Ever filter_bytes s (Get key) reply after
      → IsAnswered filter_bytes s (Get key) reply after
  pub open_seek_without_tables :
      (filter_bytes : FilterBytes) (s after : State) (reply : Reply) (lo : Bytes) → s.tables ≡ [] → Step OfDevice filter_bytes s (Seek lo None) reply after
      → IsAnswered filter_bytes s (Seek lo None) reply after
  pub seek_of_no_block :
      (filter_bytes : FilterBytes) (s after : State) (reply : Reply) (lo hi : Bytes) → seek_bound s lo hi ≡ 0 → Step OfDevice filter_bytes s (Seek lo (Some hi)) reply after
      → IsAnswered filter_bytes s (Seek lo (Some hi)) reply after
  pub range_of_no_block :
      (filter_bytes : FilterBytes) (s after : State) (reply : Reply) (lo hi : Bytes) (n : ℕ) → tables_between s lo hi ≡ 0 → Step OfDevice filter_bytes s (Range lo hi n) reply after
      → IsAnswered filter_bytes s (Range lo hi n) reply after
  pub count_of_no_block :
      (filter_bytes : FilterBytes) (s after : State) (reply : Reply) (lo hi : Bytes) → tables_between s lo hi ≡ 0 → Step OfDevice filter_bytes s (Count lo hi) reply after
      → IsAnswered filter_bytes s (Count lo hi) reply after
  pub range_of_no_pairs :
      (filter_bytes : FilterBytes) (s after : State) (reply : Reply) (lo hi : Bytes) → Step OfDevice filter_bytes s (Range lo hi 0) reply after
      → IsAnswered filter_bytes s (Range lo hi 0) reply after
  pub said_of_a_range :
      (filter_bytes : FilterBytes) (s after : State) (lo hi : Bytes) (n : ℕ) (said : Map)
      → Step OfReads filter_bytes s (Range lo hi n) (Pairs said Device) after → IsSaidOf s lo hi n said
  pub said_of_a_damaged_range :
      (filter_bytes : FilterBytes) (s after : State) (lo hi : Bytes) (n : ℕ) (said : Map) (damage : Damage)
      → Step OfReads filter_bytes s (Range lo hi n) (Pairs said (Damaged damage)) after → IsSaidOf s lo hi n said

-- ---- a step that is not the answer

-- any cause but a failed write
abbrev pub ButWrites : Why → Type 0
ButWrites WriteFailed = ⊥
ButWrites why = Unit {0}

-- the line has changed nothing, but that a compaction has dropped the job
abbrev pub IsUnchanged : Request → State → State → Type 0
IsUnchanged Compact s after = after ≡ record s { job = None }
IsUnchanged request s after = after ≡ s

-- a reply that tells of a failed read or of damage
abbrev pub TellsOfRead : Reply → Type 0
TellsOfRead reply = (reply ≡ Device) ⊎ ((damage : Damage) × (reply ≡ Damaged damage))

-- a range ends so, after some of its pairs
abbrev pub EndsPairs : State → Request → Reply → Type 0
EndsPairs s (Range lo hi n) reply = (said : Map) × (end : Reply) × (reply ≡ Pairs said end) × IsSaidOf s lo hi n said × TellsOfRead end
EndsPairs s request reply = ⊥

abbrev pub TellsOfFault : State → Request → Reply → Type 0
TellsOfFault s request reply = (reply ≡ Memory) ⊎ (TellsOfRead reply ⊎ EndsPairs s request reply)

-- the map before the line, or after its answer
abbrev pub HasEitherMap : FilterBytes → State → Request → State → Type 0
HasEitherMap filter_bytes s request after = (state_map after ≡ state_map s) ⊎ (state_map after ≡ state_map (answer filter_bytes s request).1)

-- A failed write apart, a line has its answer, or tells of a fault and changes nothing. So the map changes by the lines that
-- are answered as done, and by no other. After a failed write, which is reported as one of the device, holds the map before
-- the line or after it. A quit and a bad line have their answers, whatever happens.
pub record StepsAreAnswers : Type 0 where
  pub line :
      (filter_bytes : FilterBytes) (s after : State) (request : Request) (reply : Reply) → Step ButWrites filter_bytes s request reply after
      → IsAnswered filter_bytes s request reply after ⊎ (IsUnchanged request s after × TellsOfFault s request reply)
  pub map :
      (filter_bytes : FilterBytes) (s after : State) (request : Request) (reply : Reply) → Step ButWrites filter_bytes s request reply after
      → state_map after ≡ map_behind request reply (state_map s)
  pub failed_write :
      (filter_bytes : FilterBytes) (s after : State) (request : Request) (reply : Reply) → Step (Only WriteFailed) filter_bytes s request reply after
      → IsAnswered filter_bytes s request reply after ⊎ ((reply ≡ Device) × IsLeft filter_bytes s after × HasEitherMap filter_bytes s request after)
  pub quit :
      (filter_bytes : FilterBytes) (s after : State) (reply : Reply) → Step Ever filter_bytes s Quit reply after
      → (reply ≡ Bye) × (after ≡ s)
  pub bad_line :
      (filter_bytes : FilterBytes) (s after : State) (code : ℕ) (reply : Reply) → Step Ever filter_bytes s (Bad code) reply after
      → (reply ≡ BadLine code) × (after ≡ s)

-- A merge slice of a job of which no block is to read tells of no failed read and of no damage.
abbrev pub SlicesReadBlocks : Type 0
SlicesReadBlocks =
    (filter_bytes : FilterBytes) (s after : State) (job : Job) (why : Reply) → Runs s job → job.to_read ≡ 0
    → Tend OfReads filter_bytes s (Refused why) after → TellsOfRead why → ⊥

-- No failed write is met by a merge slice of a job whose next output has no room, nor of one that has written all at the
-- last epoch.
pub record SlicesWrite : Type 0 where
  pub room :
      (filter_bytes : FilterBytes) (s after : State) (job : Job) (refusal : NoRoom) → Runs s job
      → next_placed filter_bytes s job 1 ≡ Err refusal → Tend (Only WriteFailed) filter_bytes s (Refused Device) after
      → ⊥
  pub epoch :
      (filter_bytes : FilterBytes) (s after : State) (job : Job) → Runs s job → outstanding s.tables job ≡ [] → s.epoch ≡ last_epoch
      → Tend (Only WriteFailed) filter_bytes s (Refused Device) after → ⊥

-- A compaction leaves no job, however it is answered, and so does a merge slice that is refused.
pub record NoJobIsLeft : Type 0 where
  pub compaction :
      (filter_bytes : FilterBytes) (s after : State) (reply : Reply) → IsSound filter_bytes s
      → Step Ever filter_bytes s Compact reply after → after.job ≡ None
  pub merge_slice : (filter_bytes : FilterBytes) (s after : State) (why : Reply) → Tend Ever filter_bytes s (Refused why) after → after.job ≡ None

-- a state of the same settings and pages
abbrev pub KeepsDevice : State → State → Type 0
KeepsDevice s after = (after.settings ≡ s.settings) × (after.pages ≡ s.pages)

-- Settings and pages are those of the first state, whatever is answered.
pub record DeviceIsKept : Type 0 where
  pub line :
      (filter_bytes : FilterBytes) (s after : State) (request : Request) (reply : Reply)
      → Step Ever filter_bytes s request reply after → KeepsDevice s after
  pub merge_slice : (filter_bytes : FilterBytes) (s after : State) (tended : Tended) → Tend Ever filter_bytes s tended after → KeepsDevice s after
