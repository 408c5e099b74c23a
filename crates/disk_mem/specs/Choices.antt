-- What a crash is to make of each write since the last sync that succeeded.
use Rattle.std.specs.Prelude.{ℕ, zero, suc, ◌+◌, ◌==◌, Bool, true, false, List, [], ◌∷◌, length, if◌then◌else◌, ⊤}
use Rattle.disk_trait.specs.declared.fault.Op.{Op}
use Rattle.disk_trait.specs.declared.fault.Op.TheVariants.{Read, Write, Sync}
use Rattle.disk_mem.specs.declared.choice.Choice.{Choice}
use Rattle.disk_mem.specs.declared.choice.Choice.TheVariants.{Whole, Lost, Bytes}
use Rattle.byte_fields.specs.Spelling.{IsBytes}
use Rattle.disk_mem.specs.Bytes.{with_write}
use Rattle.disk_mem.specs.Calls.{Call, bytes_after}

pub data Pick : Type 0 where
  whole : Pick
  lost : Pick
  other : (bytes : List ℕ) → Pick

-- a choice as contracts see it
abbrev pub pick_of : Choice → Pick
pick_of Whole = whole
pick_of Lost = lost
pick_of (Bytes bytes) = other bytes.items

-- a write without a choice is lost
abbrev pub pick_at : List Pick → ℕ → Pick
pick_at [] n = lost
pick_at (pick ∷ more) zero = pick
pick_at (pick ∷ more) (suc n) = pick_at more n

-- a write of these bytes as it was picked; a list of another length is as good as lost
abbrev pub picked : Pick → ℕ → List ℕ → List ℕ → List ℕ
picked whole at bytes was = with_write was at bytes
picked lost at bytes was = was
picked (other list) at bytes was = if length list == length bytes then with_write was at list else was

-- how many writes, done or failed, came since the last sync that succeeded
abbrev pub pending_by : Op → Bool → ℕ → ℕ
pending_by Sync true before = 0
pending_by Sync false before = before
pending_by Read done before = before
pending_by Write done before = before + 1

abbrev pub pending : List Call → ℕ
pending [] = 0
pending (call ∷ earlier) = pending_by call.op call.done (pending earlier)

abbrev pub crashed_by : Op → Bool → ℕ → List ℕ → List ℕ → List ℕ → Pick → List ℕ
crashed_by Sync true at bytes read was pick = read
crashed_by Sync false at bytes read was pick = was
crashed_by Read done at bytes read was pick = was
crashed_by Write done at bytes read was pick = picked pick at bytes was

-- what is left after these calls by a crash of these picks, the first for the first write since that sync
abbrev pub crash_bytes : List ℕ → List Call → List Pick → List ℕ
crash_bytes first [] picks = first
crash_bytes first (call ∷ earlier) picks =
    crashed_by call.op call.done call.at call.bytes (bytes_after first earlier) (crash_bytes first earlier picks) (pick_at picks (pending earlier))

-- the lists that are picked are of bytes
abbrev pub AreBytePicks : List Pick → Type 0
AreBytePicks [] = ⊤
AreBytePicks (whole ∷ more) = AreBytePicks more
AreBytePicks (lost ∷ more) = AreBytePicks more
AreBytePicks (other bytes ∷ more) = IsBytes bytes × AreBytePicks more
