-- What the faults of these calls say.
use Rattle.std.specs.Prelude.{◌≡◌, ◌⊎◌, ◌+◌, ℕ, Bool, true, false}
use Rattle.disk_trait.specs.World.{Moves, ReadMoves, Rose, World}
use Rattle.disk_trait.specs.Fault.{IsFaultOf, IsWriteThroughFault}
use Rattle.disk_trait.specs.declared.fault.DiskFault.{DiskFault}
use Rattle.disk_trait.specs.declared.fault.Op.TheVariants.{Read, Sync}
use Rattle.manifest_model.specs.Version.{body_place, slot_a, slot_b}
use Rattle.manifest.specs.declared.fault.ManifestFault.{ManifestFault}
use Rattle.manifest.specs.declared.fault.ManifestFault.TheVariants as fault

-- ---- installing

-- the fault of a write of the gate, of the body behind it, or of a sync
abbrev pub IsSlotFault : ℕ → DiskFault → Type 0
IsSlotFault slot cause = IsWriteThroughFault slot cause ⊎ IsWriteThroughFault (body_place slot) cause

-- memory is wanted before anything is written; the device fails in the slot, and only where the count of failed writes rose;
-- nothing is read, so nothing that is read is refused
abbrev pub HasInstallCause : ℕ → World → World → ManifestFault → Type 0
HasInstallCause slot old new fault.Memory = ReadMoves 0 old new
HasInstallCause slot old new (fault.Device cause) = IsSlotFault slot cause × Rose old.seen.write_faults new.seen.write_faults
HasInstallCause slot old new fault.NotAStore = ⊥
HasInstallCause slot old new fault.AlreadyAStore = ⊥
HasInstallCause slot old new fault.Epoch = Unit {0}
HasInstallCause slot old new (fault.Damaged damage) = ⊥

-- ---- looking, and formatting

-- a gate was not read
abbrev pub IsGateFault : DiskFault → Type 0
IsGateFault cause = IsFaultOf Read slot_a cause ⊎ IsFaultOf Read slot_b cause

-- the sync failed, or a read of a gate, and only where the count of such failures rose
abbrev pub HasLookCause : World → World → DiskFault → Type 0
HasLookCause old new cause =
    (IsFaultOf Sync 0 cause × Rose old.seen.write_faults new.seen.write_faults) ⊎ (IsGateFault cause × Rose old.seen.read_faults new.seen.read_faults)

-- Memory is wanted behind the look, before anything is written. The look failed, or a write in slot A, and only where the
-- count of failed writes rose.
abbrev pub HasFormatCause : World → World → ManifestFault → Type 0
HasFormatCause old new fault.Memory = Moves 0 0 2 old new
HasFormatCause old new (fault.Device cause) = HasLookCause old new cause ⊎ (IsSlotFault slot_a cause × Rose old.seen.write_faults new.seen.write_faults)
HasFormatCause old new fault.NotAStore = ⊥
HasFormatCause old new fault.AlreadyAStore = Unit {0}
HasFormatCause old new fault.Epoch = ⊥
HasFormatCause old new (fault.Damaged damage) = ⊥

-- what a format answers, by whether a gate reads 1; the device may fail in either case
abbrev pub IsFormatAnswer : Bool → ManifestFault → Type 0
IsFormatAnswer has_open fault.Memory = has_open ≡ false
IsFormatAnswer has_open (fault.Device cause) = Unit {0}
IsFormatAnswer has_open fault.NotAStore = ⊥
IsFormatAnswer has_open fault.AlreadyAStore = has_open ≡ true
IsFormatAnswer has_open fault.Epoch = ⊥
IsFormatAnswer has_open (fault.Damaged damage) = ⊥

-- ---- loading

-- the head of a slot's body or its rest was not read
abbrev pub IsBodyFault : ℕ → DiskFault → Type 0
IsBodyFault slot cause = IsFaultOf Read (body_place slot) cause ⊎ IsFaultOf Read (body_place slot + 64) cause

-- the device fails at one of these, and only where the count of failed reads rose
abbrev pub HasBodyCause : ℕ → World → World → ManifestFault → Type 0
HasBodyCause slot old new fault.Memory = Unit {0}
HasBodyCause slot old new (fault.Device cause) = IsBodyFault slot cause × Rose old.seen.read_faults new.seen.read_faults
HasBodyCause slot old new fault.NotAStore = ⊥
HasBodyCause slot old new fault.AlreadyAStore = ⊥
HasBodyCause slot old new fault.Epoch = ⊥
HasBodyCause slot old new (fault.Damaged damage) = Unit {0}

-- or at the gate of the slot
abbrev pub HasSlotCause : ℕ → World → World → ManifestFault → Type 0
HasSlotCause slot old new fault.Memory = Unit {0}
HasSlotCause slot old new (fault.Device cause) = (IsFaultOf Read slot cause ⊎ IsBodyFault slot cause) × Rose old.seen.read_faults new.seen.read_faults
HasSlotCause slot old new fault.NotAStore = ⊥
HasSlotCause slot old new fault.AlreadyAStore = ⊥
HasSlotCause slot old new fault.Epoch = ⊥
HasSlotCause slot old new (fault.Damaged damage) = Unit {0}

-- or at a gate, or in the body of either slot
abbrev pub HasLoadCause : World → World → ManifestFault → Type 0
HasLoadCause old new fault.Memory = Unit {0}
HasLoadCause old new (fault.Device cause) = (IsGateFault cause ⊎ IsBodyFault slot_a cause ⊎ IsBodyFault slot_b cause) × Rose old.seen.read_faults new.seen.read_faults
HasLoadCause old new fault.NotAStore = Unit {0}
HasLoadCause old new fault.AlreadyAStore = ⊥
HasLoadCause old new fault.Epoch = ⊥
HasLoadCause old new (fault.Damaged damage) = Unit {0}
