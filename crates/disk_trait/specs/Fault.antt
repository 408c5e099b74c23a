-- Which call a fault speaks of.
use Rattle.std.specs.Prelude.{◌≡◌, ◌⊎◌, ℕ}
use Rattle.disk_trait.specs.declared.fault.DiskFault.{DiskFault}
use Rattle.disk_trait.specs.declared.fault.Op.{Op}
use Rattle.disk_trait.specs.declared.fault.Op.TheVariants.{Write, Sync}

-- the fault of a call of this kind at this place
abbrev pub IsFaultOf : Op → ℕ → DiskFault → Type 0
IsFaultOf op at fault = fault ≡ record { op = op; at = at }

-- the fault of the write, or that of the sync after it
abbrev pub IsWriteThroughFault : ℕ → DiskFault → Type 0
IsWriteThroughFault at fault = IsFaultOf Write at fault ⊎ IsFaultOf Sync 0 fault
