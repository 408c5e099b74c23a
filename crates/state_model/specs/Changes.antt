-- What a put, a flush and a compaction make of a state, or the reply by which they are refused.
use Rattle.std.specs.Prelude.{◌+◌, ◌==◌, nat_le, nat_lt, Bool, if◌then◌else◌, List, [], ◌∷◌, ◌++◌, length, filter, None, Result, Ok, Err}
use Rattle.key_base.specs.Limits.{last_epoch, max_level, max_logged_value_bytes, max_tables}
use Rattle.entry_model.specs.Entries.{Entry, bytes_of}
use Rattle.range_model.specs.Sources.{Change, Source, alone, source_of}
use Rattle.state_model.specs.Logs.{need_of, gap_after, recorded}
use Rattle.state_model.specs.State.{State, without_job}
use Rattle.table_model.specs.Tables.{FilterBytes, Table}
use Rattle.state_model.specs.View.{in_memory, memory, changes_of}
use Rattle.state_model.specs.Taken.{taken}
use Rattle.state_model.specs.Merges.{NoRoom, placed, cut_for, has_value}
use Rattle.line_model.specs.Replies.{Reply, ManyTables, LastEpoch, Full}

-- ---- flush

-- the tables are put in place, the log is emptied
abbrev pub with_tables : State → List Table → Result State Reply
with_tables s tables = if s.epoch == last_epoch then Err LastEpoch else Ok (record s { epoch = s.epoch + 1; log = []; tables = tables })

abbrev pub flush_placed : State → Result (List Table) NoRoom → Result State Reply
flush_placed s (Ok made) = with_tables s (made ++ s.tables)
flush_placed s (Err refusal) = Err (Full refusal.need refusal.gap)

-- a source is flushed where it has entries
abbrev pub flushed_with : FilterBytes → State → Source → List Entry → Result State Reply
flushed_with filter_bytes s source [] = Ok s
flushed_with filter_bytes s source (entry ∷ more) =
    if nat_le max_tables (length s.tables) then Err ManyTables else flush_placed s (placed filter_bytes s.settings s.pages (taken s) 0 (source ∷ []))

-- What is in memory becomes one table, the first of level 0, in the first gap that holds it, and the log is empty. Where
-- there are no entries nothing changes.
abbrev pub flushed : FilterBytes → State → Result State Reply
flushed filter_bytes s = flushed_with filter_bytes s (in_memory s) (memory s)

-- ---- changes that are written

abbrev pub logged : State → Change → State
logged s change = record s { log = s.log ++ (change ∷ []) }

abbrev pub logged_then : Change → Result State Reply → Result State Reply
logged_then change (Ok s) = Ok (logged s change)
logged_then change (Err refusal) = Err refusal

-- the value is longer than any that the log takes
abbrev pub is_long : Entry → Bool
is_long entry = nat_lt max_logged_value_bytes (length (bytes_of entry.value))

-- The change is logged, after a flush exactly where its record does not fit the log area. An entry with a long value is not
-- logged: it is flushed, over what is in memory.
abbrev pub written : FilterBytes → State → Change → Result State Reply
written filter_bytes s change =
    if is_long (recorded change) then flushed filter_bytes (logged s change)
    else (if nat_le (need_of change) (gap_after s.log) then Ok (logged s change) else logged_then change (flushed filter_bytes s))

-- ---- compact

abbrev pub compact_placed : State → Result (List Table) NoRoom → Result State Reply
compact_placed s (Ok made) = Ok (record s { epoch = s.epoch + 1; log = []; tables = made; job = None })
compact_placed s (Err refusal) = Err (Full refusal.need refusal.gap)

-- the live pairs alone, as entries
abbrev pub live_entries : State → List Entry
live_entries s = filter (λ (e : Entry). has_value e.value) (source_of (changes_of s)).entries

-- what a compaction writes: the live pairs, and no range
abbrev pub compacted_outputs : State → List Source
compacted_outputs s = cut_for s.tables (alone (live_entries s))

-- Some changes, and tables with them, become tables of the last level.
abbrev pub compacted_with : FilterBytes → State → List Change → Result State Reply
compacted_with filter_bytes s [] = Ok s
compacted_with filter_bytes s (change ∷ more) =
    if s.epoch == last_epoch then Err LastEpoch
    else compact_placed s (placed filter_bytes s.settings s.pages (taken (without_job s)) max_level (compacted_outputs s))

-- The live pairs alone are in tables of the last level, the log is empty and no job runs. An empty store stays as it is.
abbrev pub compacted : FilterBytes → State → Result State Reply
compacted filter_bytes s = compacted_with filter_bytes s (changes_of s)
