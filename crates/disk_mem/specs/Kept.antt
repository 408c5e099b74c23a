-- The list of calls as a log keeps it: entries, the first call first, and all the bytes that they moved in one row.
use Rattle.std.specs.Prelude.{ℕ, ◌+◌, ◌^◌, ◌≤◌, List, length, map, reverse, slice_range, All}
use Rattle.disk_mem.specs.declared.call_log.CallRow.{CallRow}
use Rattle.disk_mem.specs.Calls.{Call}

-- what a log shows: its calls, the latest first, and the room for more: so many, that move so many bytes in all
pub record Log : Type 0 where
  pub calls : List Call
  pub room_calls : ℕ
  pub room_bytes : ℕ

abbrev pub call_of : List ℕ → CallRow → Call
call_of moved e = record { op = e.op; at = e.at; bytes = slice_range moved e.from (e.from + e.len); done = e.done }

abbrev pub calls_of : List ℕ → List CallRow → List Call
calls_of moved entries = reverse (map (call_of moved) entries)

-- each entry's bytes are there, and its range is one of a disk
pub record IsKept (moved : List ℕ) (e : CallRow) : Type 0 where
  pub within : e.from + e.len ≤ length moved
  pub in_range : e.at + e.len ≤ 2 ^ 48

abbrev pub AreKept : List ℕ → List CallRow → Type 0
AreKept moved entries = All (IsKept moved) entries
