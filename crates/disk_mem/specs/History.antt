-- A disk in memory as contracts see it: its bytes at the start and its calls since.
use Rattle.std.specs.Prelude.{◌≡◌, ◌⊎◌, ℕ, ◌+◌, ◌-◌, ◌^◌, ◌≤◌, min, max, Bool, true, false, List, [], ◌∷◌, length, Contains, Result, MatchResult}
use Rattle.disk_trait.specs.World.{World, Image, Rose}
use Rattle.disk_trait.specs.declared.fault.Op.TheVariants.{Read, Write, Sync}
use Rattle.disk_mem.specs.Bytes.{image_of}
use Rattle.disk_mem.specs.Calls.{Call, bytes_after, Left, calls_by, reads_in, failed_reads, failed_writes}

pub record History : Type 0 where
  pub first : List ℕ  -- the bytes that it was made with
  pub calls : List Call  -- its calls since, the latest first
  pub faults : List ℕ  -- the numbers, from 0, of the calls that fail
  pub starved_reads : ℕ  -- how many reads found no memory, and how many writes and syncs
  pub starved_writes : ℕ
  pub room_calls : ℕ  -- room for so many calls, that move so many bytes in all
  pub room_bytes : ℕ

-- new, with these bytes: no call was made, none is to fail
pub record IsNew (bytes : List ℕ) (h : History) : Type 0 where
  pub first : h.first ≡ bytes
  pub calls : h.calls ≡ []
  pub faults : h.faults ≡ []
  pub starved_reads : h.starved_reads ≡ 0
  pub starved_writes : h.starved_writes ≡ 0

-- the coming call is one of those that fail
abbrev pub IsListed : History → Type 0
IsListed h = Contains h.faults (length h.calls)

-- a count in a u64, one higher: it stays at its last value
abbrev pub counted_on : ℕ → ℕ
counted_on n = max n (min (n + 1) (2 ^ 64 - 1))

-- how often a call found no memory
abbrev pub starved_in : History → ℕ
starved_in h = min (h.starved_reads + h.starved_writes) (2 ^ 64 - 1)

-- ---- how a call ends

-- the records of calls: a read that failed moved nothing, nor does a sync
abbrev pub read_call : ℕ → List ℕ → Call
read_call at bytes = record { op = Read; at = at; bytes = bytes; done = true }

abbrev pub failed_read_call : ℕ → Call
failed_read_call at = record { op = Read; at = at; bytes = []; done = false }

abbrev pub write_call : ℕ → List ℕ → Bool → Call
write_call at bytes done = record { op = Write; at = at; bytes = bytes; done = done }

abbrev pub sync_call : Bool → Call
sync_call done = record { op = Sync; at = 0; bytes = []; done = done }

-- it has a number, and this is its record
pub record Adds (call : Call) (old new : History) : Type 0 where
  pub first : new.first ≡ old.first
  pub calls : new.calls ≡ call ∷ old.calls
  pub faults : new.faults ≡ old.faults
  pub starved_reads : new.starved_reads ≡ old.starved_reads
  pub starved_writes : new.starved_writes ≡ old.starved_writes

-- a read without memory: it does nothing and has no number
pub record StarvesRead (old new : History) : Type 0 where
  pub first : new.first ≡ old.first
  pub calls : new.calls ≡ old.calls
  pub faults : new.faults ≡ old.faults
  pub starved_reads : new.starved_reads ≡ counted_on old.starved_reads
  pub starved_writes : new.starved_writes ≡ old.starved_writes
  pub rose : Rose (starved_in old) (starved_in new)

-- a write or a sync without memory, alike
pub record StarvesWrite (old new : History) : Type 0 where
  pub first : new.first ≡ old.first
  pub calls : new.calls ≡ old.calls
  pub faults : new.faults ≡ old.faults
  pub starved_reads : new.starved_reads ≡ old.starved_reads
  pub starved_writes : new.starved_writes ≡ counted_on old.starved_writes
  pub rose : Rose (starved_in old) (starved_in new)

-- a read of these bytes ends: done; or failed, since its number is listed; or without memory
abbrev pub ReadEnds : {T E : Type 0} → ℕ → List ℕ → Result T E → History → History → Type 0
ReadEnds at bytes result old new = MatchResult result
    (λ _. ¬ IsListed old × Adds (read_call at bytes) old new)
    (λ _. (IsListed old × Adds (failed_read_call at) old new) ⊎ StarvesRead old new)

abbrev pub WriteEnds : {T E : Type 0} → ℕ → List ℕ → Result T E → History → History → Type 0
WriteEnds at bytes result old new = MatchResult result
    (λ _. ¬ IsListed old × Adds (write_call at bytes true) old new)
    (λ _. (IsListed old × Adds (write_call at bytes false) old new) ⊎ StarvesWrite old new)

abbrev pub SyncEnds : {T E : Type 0} → Result T E → History → History → Type 0
SyncEnds result old new = MatchResult result
    (λ _. ¬ IsListed old × Adds (sync_call true) old new)
    (λ _. (IsListed old × Adds (sync_call false) old new) ⊎ StarvesWrite old new)

-- While there is room for a call, and for the bytes that it moves, it gets its number; and it uses no more of it.
pub record Lasts (moved : ℕ) (old new : History) : Type 0 where
  pub numbered : 1 ≤ old.room_calls → moved ≤ old.room_bytes → length new.calls ≡ length old.calls + 1
  pub room_calls : old.room_calls ≤ new.room_calls + 1
  pub room_bytes : old.room_bytes ≤ new.room_bytes + moved

-- the bytes that a write of n at this place moves: its own, and the zeros between the device's end and it
abbrev pub moved_by : ℕ → ℕ → History → ℕ
moved_by at n h = n + (at - length (bytes_after h.first h.calls))

-- ---- as a disk

-- a crash after these calls may leave this image
abbrev pub LeftImage : List ℕ → List Call → Image → Type 0
LeftImage first calls image = (bytes : List ℕ) × Left first calls bytes × (image ≡ image_of bytes)

-- The clock counts the calls; nothing stands beside.
abbrev pub world_of : List ℕ → List Call → ℕ → ℕ → World
world_of first calls starved_reads starved_writes = record {
  seen = record {
    held = image_of (bytes_after first calls);
    reads = reads_in calls;
    read_faults = failed_reads calls + starved_reads;
    write_faults = failed_writes calls + starved_writes;
  };
  moment = length calls;
  leaves = λ m image. LeftImage first (calls_by m calls) image;
  beside = record { to_take = []; said = []; said_by = λ m. 0; take_faults = 0; say_faults = 0 };
}

abbrev pub disk_world : History → World
disk_world h = world_of h.first h.calls h.starved_reads h.starved_writes
