-- What may be left of an outside, and of the next one: over the same disk, or over one that a crash made of it.
use Rattle.std.specs.Prelude.{◌≡◌, ℕ, List}
use Rattle.disk_mem.specs.Choices.{AreBytePicks, Pick, crash_bytes}
use Rattle.disk_mem.specs.History.{History, IsNew}
use Rattle.disk_trait.specs.World.{Image, Now, World}
use Rattle.outside.specs.Session.{Session, fresh, session_world}

-- a crash may leave this image now
abbrev pub IsLeftNow : World → Image → Type 0
IsLeftNow w image = w.leaves w.moment image

-- What may be left now of a new outside over the same disk may be left now of the one before: so what each image of that one has,
-- each of the new one has.
abbrev pub DiskIsHandedOn : Type 0
DiskIsHandedOn = (s : Session) (input takes says : List ℕ) (pace : ℕ) → Now (IsLeftNow (session_world s)) (session_world (fresh s.disk input takes says pace))

-- A disk that any crash now makes has one image, what it reads as; and it may be left now of the outside before.
abbrev pub CrashIsHandedOn : Type 0
CrashIsHandedOn =
    (s : Session) (picks : List Pick) (h : History) (input takes says : List ℕ) (pace : ℕ) → AreBytePicks picks → IsNew (crash_bytes s.disk.first s.disk.calls picks) h
    → Now (λ image. (image ≡ (session_world (fresh h input takes says pace)).seen.held) × IsLeftNow (session_world s) image) (session_world (fresh h input takes says pace))
