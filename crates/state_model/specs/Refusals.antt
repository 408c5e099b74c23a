-- Why a line is refused.
use Rattle.std.specs.Prelude.{ℕ, ◌≡◌, ◌≢◌, ◌⊎◌, ◌<◌, ◌≤◌, Bool, true, false, if◌then◌else◌, List, [], ◌∷◌, length, Option, Some, None, Result, Ok, Err}
use Rattle.filter_api.specs.declared.settings.Settings.{Settings}
use Rattle.key_base.specs.Limits.{last_epoch, max_bound_bytes, max_key_bytes, max_level, max_tables, max_value_bytes}
use Rattle.map_model.specs.SortedMap.{Bytes}
use Rattle.entry_model.specs.Entries.{Entry, put_entry, del_entry, need}
use Rattle.range_model.specs.Sources.{Sets, Source}
use Rattle.state_model.specs.Logs.{gap_after}
use Rattle.state_model.specs.State.{State, without_job}
use Rattle.table_model.specs.Tables.{FilterBytes, Table, source_pages}
use Rattle.state_model.specs.View.{in_memory, memory, changes_of}
use Rattle.extent_model.specs.Extents.{Extent}
use Rattle.extent_model.specs.Gaps.{largest_gap}
use Rattle.state_model.specs.Taken.{taken}
use Rattle.state_model.specs.Merges.{NoRoom, placed}
use Rattle.state_model.specs.Changes.{compacted_outputs, is_long, logged}
use Rattle.line_model.specs.Requests.{Request, Put, Del, Get, Seek, Range, Count, Estimate, Explain, Flush, Compact}
use Rattle.line_model.specs.Replies.{Reply, LongKey, LongValue, ManyTables, LastEpoch, Full}
use Rattle.state_model.specs.Steps.{answer}
use Rattle.line_model.specs.Limits.{limit_of}

-- the replies that refuse a line for what the state or the line is
abbrev pub is_refusal : Reply → Bool
is_refusal (LongKey size) = true
is_refusal (LongValue size) = true
is_refusal ManyTables = true
is_refusal LastEpoch = true
is_refusal (Full need gap) = true
is_refusal reply = false

-- ---- limits

-- a key has one byte or more, and at most that many
abbrev pub KeyFits : Bytes → Type 0
KeyFits key = (1 ≤ length key) × (length key ≤ max_key_bytes)

abbrev pub KeyBreaks : Bytes → Type 0
KeyBreaks key = (length key ≡ 0) ⊎ (max_key_bytes < length key)

-- the key that a request names
abbrev pub key_of : Request → Option Bytes
key_of (Put key value) = Some key
key_of (Del key) = Some key
key_of (Get key) = Some key
key_of (Explain key) = Some key
key_of request = None

-- the bounds between which a request reads
abbrev pub bounds_of : Request → List Bytes
bounds_of (Seek lo None) = lo ∷ []
bounds_of (Seek lo (Some hi)) = lo ∷ hi ∷ []
bounds_of (Range lo hi n) = lo ∷ hi ∷ []
bounds_of (Count lo hi) = lo ∷ hi ∷ []
bounds_of (Estimate lo hi) = lo ∷ hi ∷ []
bounds_of request = []

-- The limits that a request may break, and the reply: that of a key, and then that of a value; that of a bound, of the lower
-- one first. A bound may be empty.
pub data BreaksLimit (request : Request) : Reply → Type 0 where
  by_key : (key : Bytes) → key_of request ≡ Some key → KeyBreaks key → BreaksLimit request (LongKey (length key))
  by_value : (key value : Bytes) → request ≡ Put key value → KeyFits key → max_value_bytes < length value
      → BreaksLimit request (LongValue (length value))
  by_lower : (lo : Bytes) (more : List Bytes) → bounds_of request ≡ lo ∷ more → max_bound_bytes < length lo → BreaksLimit request (LongKey (length lo))
  by_upper : (lo hi : Bytes) → bounds_of request ≡ lo ∷ hi ∷ [] → length lo ≤ max_bound_bytes → max_bound_bytes < length hi
      → BreaksLimit request (LongKey (length hi))

-- ---- causes

-- the record of an entry that is logged does not fit the log area, and there are memory entries
abbrev pub IsWide : State → Entry → Type 0
IsWide s entry = (gap_after s.log < need entry) × (memory s ≢ [])

-- A long value is to be put, whatever is in memory; or there are memory entries, and a flush of them is asked for, or an entry
-- whose record does not fit the log area.
abbrev pub FlushIsDue : State → Request → Type 0
FlushIsDue s (Put key value) = (is_long (put_entry key value) ≡ true) ⊎ IsWide s (put_entry key value)
FlushIsDue s (Del key) = IsWide s (del_entry key)
FlushIsDue s Flush = memory s ≢ []
FlushIsDue s request = ⊥

-- what is flushed where a flush is due: what is in memory, for a long value with its entry over it
abbrev pub flushed_source : State → Request → Source
flushed_source s (Put key value) = if is_long (put_entry key value) then in_memory (logged s (Sets (put_entry key value))) else in_memory s
flushed_source s request = in_memory s

-- a compaction of a store that is not empty is asked for
abbrev pub CompactionIsDue : State → Request → Type 0
CompactionIsDue s Compact = changes_of s ≢ []
CompactionIsDue s request = ⊥

-- where the tables of a flush are put, and those of a compaction
abbrev pub flush_places : FilterBytes → State → Request → Result (List Table) NoRoom
flush_places filter_bytes s request = placed filter_bytes s.settings s.pages (taken s) 0 (flushed_source s request ∷ [])

abbrev pub compaction_places : FilterBytes → State → Result (List Table) NoRoom
compaction_places filter_bytes s = placed filter_bytes s.settings s.pages (taken (without_job s)) max_level (compacted_outputs s)

-- The causes for which a line is refused, and the reply by which it is. Limits come first. A flush asks for fewer tables
-- than the most, then for room, then for a next epoch; a compaction asks for a next epoch, then for room.
pub data Refused (filter_bytes : FilterBytes) (s : State) (request : Request) : Reply → Type 0 where
  by_limit : (reply : Reply) → limit_of request ≡ Some reply → Refused filter_bytes s request reply
  flush_by_tables : limit_of request ≡ None → FlushIsDue s request → max_tables ≤ length s.tables
      → Refused filter_bytes s request ManyTables
  flush_by_room : (refusal : NoRoom) → limit_of request ≡ None → FlushIsDue s request → length s.tables < max_tables
      → flush_places filter_bytes s request ≡ Err refusal → Refused filter_bytes s request (Full refusal.need refusal.gap)
  flush_by_epoch : (made : List Table) → limit_of request ≡ None → FlushIsDue s request → length s.tables < max_tables
      → flush_places filter_bytes s request ≡ Ok made → s.epoch ≡ last_epoch → Refused filter_bytes s request LastEpoch
  compaction_by_epoch : limit_of request ≡ None → CompactionIsDue s request → s.epoch ≡ last_epoch
      → Refused filter_bytes s request LastEpoch
  compaction_by_room : (refusal : NoRoom) → limit_of request ≡ None → CompactionIsDue s request → s.epoch ≢ last_epoch
      → compaction_places filter_bytes s ≡ Err refusal → Refused filter_bytes s request (Full refusal.need refusal.gap)

-- A line that has a cause is answered by its refusal, and every refusal has its cause. The limit of a request is the one
-- that it breaks. A flush has no room exactly where its table has more pages than the largest gap; a refusal says both.
pub record RefusalLaws : Type 0 where
  pub gives :
      (filter_bytes : FilterBytes) (s : State) (request : Request) (reply : Reply) → Refused filter_bytes s request reply
      → (answer filter_bytes s request).0 ≡ reply
  pub only :
      (filter_bytes : FilterBytes) (s : State) (request : Request)
      → is_refusal (answer filter_bytes s request).0 ≡ true → Refused filter_bytes s request (answer filter_bytes s request).0
  pub limits : (request : Request) (reply : Reply) → BreaksLimit request reply → limit_of request ≡ Some reply
  pub limits_only : (request : Request) (reply : Reply) → limit_of request ≡ Some reply → BreaksLimit request reply
  pub room :
      (filter_bytes : FilterBytes) (settings : Settings) (pages : ℕ) (extents : List Extent) (level : ℕ) (outputs : List Source) (refusal : NoRoom)
      → placed filter_bytes settings pages extents level outputs ≡ Err refusal → refusal.gap < refusal.need
  pub flush_room :
      (filter_bytes : FilterBytes) (s : State) (request : Request)
      → largest_gap s.pages (taken s) < source_pages filter_bytes s.settings (flushed_source s request)
      → flush_places filter_bytes s request
      ≡ Err (record { need = source_pages filter_bytes s.settings (flushed_source s request); gap = largest_gap s.pages (taken s) })
  pub flush_room_only :
      (filter_bytes : FilterBytes) (s : State) (request : Request) (refusal : NoRoom) → flush_places filter_bytes s request ≡ Err refusal
      → refusal ≡ record { need = source_pages filter_bytes s.settings (flushed_source s request); gap = largest_gap s.pages (taken s) }
