-- What the faults of reading say.
use Rattle.std.specs.Prelude.{◌⊎◌, ℕ, ◌+◌}
use Rattle.disk_trait.specs.Image.{Image}
use Rattle.disk_trait.specs.World.{World, Rose}
use Rattle.disk_trait.specs.Fault.{IsFaultOf, IsWriteThroughFault}
use Rattle.disk_trait.specs.declared.fault.DiskFault.{DiskFault}
use Rattle.disk_trait.specs.declared.fault.Op.TheVariants.{Read}
use Rattle.map_model.specs.SortedMap.{Bytes}
use Rattle.log_model.specs.Area.{start_of, LogBreaks}
use Rattle.log_model.specs.Records.{Breaks}
use Rattle.byte_fields.specs.declared.part_fault.PartFault.{PartFault}
use Rattle.byte_fields.specs.declared.part_fault.PartFault.TheVariants as area
use Rattle.gate_log.specs.declared.fault.LogFault.{LogFault}
use Rattle.gate_log.specs.declared.fault.LogFault.TheVariants as log

-- the fault of the write behind a gate, of the write of the gate, or of a sync
abbrev pub IsAppendFault : ℕ → DiskFault → Type 0
IsAppendFault gate fault = IsWriteThroughFault (gate + 1) fault ⊎ IsWriteThroughFault gate fault

-- want of memory is free; a shape is the first rule that is broken, at its place
abbrev pub IsFaultIn : Bytes → PartFault → Type 0
IsFaultIn bytes area.Memory = Unit {0}
IsFaultIn bytes (area.Shape place rule) = Breaks place rule bytes

abbrev pub IsShapeIn : ℕ → Image → LogFault → Type 0
IsShapeIn area image log.Memory = Unit {0}
IsShapeIn area image (log.Device cause) = Unit {0}
IsShapeIn area image (log.Shape at rule) = LogBreaks area at rule image

-- the device fails at the area's first byte, and only where the count of failed reads rose
abbrev pub HasReadCause : ℕ → World → World → LogFault → Type 0
HasReadCause area old new log.Memory = Unit {0}
HasReadCause area old new (log.Device cause) = IsFaultOf Read (start_of area) cause × Rose old.seen.read_faults new.seen.read_faults
HasReadCause area old new (log.Shape at rule) = Unit {0}

-- memory or the device, and not what was read
abbrev pub IsNoShape : LogFault → Type 0
IsNoShape log.Memory = Unit {0}
IsNoShape (log.Device cause) = Unit {0}
IsNoShape (log.Shape at rule) = ⊥
