-- Why a run ends, what it may change, and what never falls.
use Rattle.std.specs.Prelude.{◌≡◌, ◌⊎◌, ◌≤◌, ℕ}
use Rattle.disk_trait.specs.World.{Passes, Rose, Torn, World}
use Rattle.lines_in.specs.declared.line_end.LineEnd.{LineEnd}
use Rattle.lines_in.specs.declared.line_end.LineEnd.TheVariants.{Next, Quit, End}
use Rattle.lines_in.specs.Statuses.{done_status, input_status, device_status, damaged_status, output_status, memory_status, limit_status}

-- no count of faults falls
pub record NoFall (old new : World) : Type 0 where
  pub read : old.seen.read_faults ≤ new.seen.read_faults
  pub write : old.seen.write_faults ≤ new.seen.write_faults
  pub take : old.beside.take_faults ≤ new.beside.take_faults
  pub say : old.beside.say_faults ≤ new.beside.say_faults

-- a read, or a write or a sync, failed in this call
abbrev pub DiskFailed : World → World → Type 0
DiskFailed old new = Rose old.seen.read_faults new.seen.read_faults ⊎ Rose old.seen.write_faults new.seen.write_faults

abbrev pub TakeFailed : World → World → Type 0
TakeFailed old new = Rose old.beside.take_faults new.beside.take_faults

abbrev pub SayFailed : World → World → Type 0
SayFailed old new = Rose old.beside.say_faults new.beside.say_faults

-- some call failed
abbrev pub SomeFailed : World → World → Type 0
SomeFailed old new = TakeFailed old new ⊎ DiskFailed old new ⊎ SayFailed old new

-- a status that tells of a fault comes only where the count of such faults rose
pub record StatusCause (status : ℕ) (old new : World) : Type 0 where
  pub taking : status ≡ input_status → TakeFailed old new
  pub device : status ≡ device_status → DiskFailed old new
  pub saying : status ≡ output_status → SayFailed old new

-- a run that only says a line ends with this status, or with 7 where there was no memory, or with 6 where the line could not be
-- said whole
abbrev pub EndsAt : ℕ → ℕ → World → World → Type 0
EndsAt wanted status old new = (status ≡ wanted) ⊎ (status ≡ memory_status) ⊎ ((status ≡ output_status) × SayFailed old new)

-- Nothing changes after the first n bytes: neither what the device reads as, nor what a crash may leave at any later
-- moment, beside what it might have left at the start.
pub record WritesWithin (n : ℕ) (old new : World) : Type 0 where
  pub held : Torn 0 n old.seen.held new.seen.held
  pub time : Passes (Torn 0 n) old new

-- what answering lines does: nothing is taken, and no count of faults falls
pub record LineMoves (old new : World) : Type 0 where
  pub input : new.beside.to_take ≡ old.beside.to_take
  pub counts : NoFall old new

-- An end of the run by a line has its cause, and damage has this one.
abbrev pub EndCause : (World → Type 0) → LineEnd → World → World → Type 0
EndCause Shows Next old new = Unit {0}
EndCause Shows Quit old new = Unit {0}
EndCause Shows (End status) old new = ((status ≡ device_status) × DiskFailed old new) ⊎ ((status ≡ damaged_status) × Shows new) ⊎ ((status ≡ output_status) × SayFailed old new)

-- the statuses with which serving ends
abbrev pub IsServing : ℕ → Type 0
IsServing status = (status ≡ done_status) ⊎ (status ≡ input_status) ⊎ (status ≡ device_status) ⊎ (status ≡ output_status) ⊎ (status ≡ limit_status)

-- the input was read to its end or to `quit`, or 2^40 bytes of it were; or nothing was taken, since there was no memory
abbrev pub Completed : ℕ → World → World → Type 0
Completed status old new = (status ≡ done_status) ⊎ (status ≡ limit_status) ⊎ ((status ≡ memory_status) × (new.beside.to_take ≡ old.beside.to_take))
