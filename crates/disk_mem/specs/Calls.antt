-- The calls of a disk, the latest first; what they make of its bytes, and what a crash may leave of them.
use Rattle.std.specs.Prelude.{◌≡◌, ◌⊎◌, ℕ, ◌+◌, ◌-◌, Bool, true, false, List, [], ◌∷◌, length, drop, slice_index_or}
use Rattle.disk_trait.specs.declared.fault.Op.{Op}
use Rattle.disk_trait.specs.declared.fault.Op.TheVariants.{Read, Write, Sync}
use Rattle.byte_fields.specs.Spelling.{IsBytes}
use Rattle.disk_mem.specs.Bytes.{with_write}

-- a call that has a number: what it was asked for, its place, the bytes that it moved, and whether it was done
pub record Call : Type 0 where
  pub op : Op
  pub at : ℕ
  pub bytes : List ℕ
  pub done : Bool

-- ---- what it reads as

abbrev pub applied : Op → Bool → ℕ → List ℕ → List ℕ → List ℕ
applied Write true at bytes was = with_write was at bytes
applied Write false at bytes was = was
applied Read done at bytes was = was
applied Sync done at bytes was = was

-- the bytes after these calls, of a disk that was made with the first ones
abbrev pub bytes_after : List ℕ → List Call → List ℕ
bytes_after first [] = first
bytes_after first (call ∷ earlier) = applied call.op call.done call.at call.bytes (bytes_after first earlier)

-- ---- what a crash may leave

-- a write of these bytes, done or failed, after a crash: whole, lost, or any bytes in its range
abbrev pub Becomes : ℕ → List ℕ → List ℕ → List ℕ → Type 0
Becomes at bytes was now =
    (now ≡ with_write was at bytes) ⊎ (now ≡ was) ⊎ ((other : List ℕ) × IsBytes other × (length other ≡ length bytes) × (now ≡ with_write was at other))

-- one call more: what could be left before it, and the bytes that are read by then
abbrev pub LeftBy : Op → Bool → ℕ → List ℕ → List ℕ → (List ℕ → Type 0) → List ℕ → Type 0
LeftBy Sync true at bytes read Before now = now ≡ read
LeftBy Sync false at bytes read Before now = Before now
LeftBy Read done at bytes read Before now = Before now
LeftBy Write done at bytes read Before now = (was : List ℕ) × Before was × Becomes at bytes was now

-- a crash after these calls may leave these bytes: those of the last sync that succeeded, with each later write whole,
-- lost, or any bytes in its range
abbrev pub Left : List ℕ → List Call → List ℕ → Type 0
Left first [] now = now ≡ first
Left first (call ∷ earlier) now = LeftBy call.op call.done call.at call.bytes (bytes_after first earlier) (Left first earlier) now

-- ---- counts, and calls by their numbers

-- the calls made by a moment: so many, the first ones
abbrev pub calls_by : ℕ → List Call → List Call
calls_by m calls = drop (length calls - m) calls

-- stands for a call that is not there
abbrev pub no_call : Call
no_call = record { op = Sync; at = 0; bytes = []; done = false }

-- the call of a number, from 0
abbrev pub call_at : List Call → ℕ → Call
call_at calls number = slice_index_or calls (length calls - (number + 1)) no_call

-- how many calls there are up to the last sync that succeeded, that sync among them
abbrev pub last_sync_by : Op → Bool → ℕ → ℕ → ℕ
last_sync_by Sync true count before = count
last_sync_by Sync false count before = before
last_sync_by Read done count before = before
last_sync_by Write done count before = before

abbrev pub last_sync : List Call → ℕ
last_sync [] = 0
last_sync (call ∷ earlier) = last_sync_by call.op call.done (length earlier + 1) (last_sync earlier)

abbrev pub one_if_read : Op → ℕ
one_if_read Read = 1
one_if_read Write = 0
one_if_read Sync = 0

abbrev pub one_if_failed_read : Op → Bool → ℕ
one_if_failed_read Read false = 1
one_if_failed_read Read true = 0
one_if_failed_read Write done = 0
one_if_failed_read Sync done = 0

abbrev pub one_if_failed_write : Op → Bool → ℕ
one_if_failed_write Read done = 0
one_if_failed_write Write false = 1
one_if_failed_write Write true = 0
one_if_failed_write Sync false = 1
one_if_failed_write Sync true = 0

abbrev pub reads_in : List Call → ℕ
reads_in [] = 0
reads_in (call ∷ earlier) = reads_in earlier + one_if_read call.op

abbrev pub failed_reads : List Call → ℕ
failed_reads [] = 0
failed_reads (call ∷ earlier) = failed_reads earlier + one_if_failed_read call.op call.done

-- writes and syncs
abbrev pub failed_writes : List Call → ℕ
failed_writes [] = 0
failed_writes (call ∷ earlier) = failed_writes earlier + one_if_failed_write call.op call.done
