-- Why a check ends.
use Rattle.std.specs.Prelude.{◌≡◌, ℕ}
use Rattle.disk_trait.specs.World.{ReadMoves, Rose, World}
use Rattle.store_check.specs.declared.error.CheckError.{CheckError}
use Rattle.store_check.specs.declared.error.CheckError.TheVariants as check
use Rattle.table_file.specs.declared.fault.TableFault.{TableFault}
use Rattle.table_file.specs.declared.fault.TableFault.TheVariants as table

-- out of memory, or where the device fails; damage ends no check
abbrev pub IsErrorOf : TableFault → CheckError → Type 0
IsErrorOf table.Memory error = error ≡ check.Memory
IsErrorOf (table.Device cause) error = error ≡ check.Device cause
IsErrorOf (table.Damaged damage) error = ⊥

-- the device fails only where the count of failed reads rose
abbrev pub HasCause : World → World → CheckError → Type 0
HasCause old new check.Memory = Unit {0}
HasCause old new check.NotAStore = Unit {0}
HasCause old new (check.Device cause) = Rose old.seen.read_faults new.seen.read_faults

abbrev pub HasFaultCause : World → World → TableFault → Type 0
HasFaultCause old new table.Memory = Unit {0}
HasFaultCause old new (table.Device cause) = Rose old.seen.read_faults new.seen.read_faults
HasFaultCause old new (table.Damaged d) = Unit {0}

-- memory or the device
abbrev pub IsFree : CheckError → Type 0
IsFree check.Memory = Unit {0}
IsFree (check.Device cause) = Unit {0}
IsFree check.NotAStore = ⊥

-- reads and nothing else
abbrev pub OnlyReads : World → World → Type 0
OnlyReads old new = (most : ℕ) × ReadMoves most old new
