-- What the faults of reading a table say.
use Rattle.std.specs.Prelude.{◌≡◌, ◌≢◌, ◌⊎◌, ◌≤◌, ◌+◌, ℕ, Option, Some, None}
use Rattle.std.specs.Option.{option_map}
use Rattle.block_model.specs.BlockReading.{block_fault}
use Rattle.byte_fields.specs.Faults.{Fault, fault}
use Rattle.byte_fields.specs.Sums.{fnv_of}
use Rattle.byte_fields.specs.declared.parts.Damage.{Damage}
use Rattle.byte_fields.specs.declared.parts.Damage.TheVariants as damage
use Rattle.byte_fields.specs.declared.parts.Part.{Part}
use Rattle.byte_fields.specs.declared.parts.Part.TheVariants as part
use Rattle.byte_fields.specs.declared.parts.Row.{Row}
use Rattle.disk_trait.specs.Fault.{IsFaultOf}
use Rattle.disk_trait.specs.Image.{Image}
use Rattle.disk_trait.specs.World.{World, Rose}
use Rattle.disk_trait.specs.declared.fault.Op.TheVariants.{Read}
use Rattle.filter_api.specs.Spellings.{Spelling}
use Rattle.filter_api.specs.declared.errors.FilterFault.{FilterFault}
use Rattle.filter_api.specs.declared.settings.Settings.{Settings}
use Rattle.map_model.specs.SortedMap.{Bytes}
use Rattle.block_model.specs.Places.{byte_of_page, filter_page, index_page}
use Rattle.table_model.specs.Damage.{IsFilterDamage, index_damage}
use Rattle.byte_fields.specs.declared.part_fault.PartFault.{PartFault}
use Rattle.byte_fields.specs.declared.part_fault.PartFault.TheVariants as index
use Rattle.table_file.specs.declared.fault.TableFault.{TableFault}
use Rattle.table_file.specs.declared.fault.TableFault.TheVariants as table

-- a shape, the first rule that is broken at its place
abbrev pub IsShape : Option Fault → PartFault → Type 0
IsShape first index.Memory = ⊥
IsShape first (index.Shape place rule) = first ≡ Some (fault place rule)

-- lack of memory is free
abbrev pub IsIndexFault : Option Fault → PartFault → Type 0
IsIndexFault first index.Memory = Unit {0}
IsIndexFault first (index.Shape place rule) = first ≡ Some (fault place rule)

-- the place is one of a given number of bytes, or just after them
abbrev pub IsPlaceWithin : ℕ → PartFault → Type 0
IsPlaceWithin bytes index.Memory = Unit {0}
IsPlaceWithin bytes (index.Shape place rule) = place ≤ bytes

-- ---- faults of a table

-- memory or the device, and not what was read
abbrev pub IsNoDamage : TableFault → Type 0
IsNoDamage table.Memory = Unit {0}
IsNoDamage (table.Device cause) = Unit {0}
IsNoDamage (table.Damaged d) = ⊥

-- memory or what was read, and not the device
abbrev pub IsNoDevice : TableFault → Type 0
IsNoDevice table.Memory = Unit {0}
IsNoDevice (table.Device cause) = ⊥
IsNoDevice (table.Damaged d) = Unit {0}

-- this damage, or lack of memory
abbrev pub IsDamage : Option Damage → TableFault → Type 0
IsDamage first table.Memory = Unit {0}
IsDamage first (table.Device cause) = ⊥
IsDamage first (table.Damaged d) = first ≡ Some d

-- the sum of a part is another one than the kept one
pub record IsOtherSum (part : Part) (at kept : ℕ) (bytes : Bytes) (fault : TableFault) : Type 0 where
  pub other : kept ≢ fnv_of bytes
  pub fault_is : fault ≡ table.Damaged (damage.Sum part at kept (fnv_of bytes))

-- A damage of a block, whatever the device reads: the sum of some bytes is another one than the kept one, or they break this rule
-- first.
abbrev pub IsBlockDamage : Damage → Type 0
IsBlockDamage d = (bytes : Bytes) × (at : ℕ) × (kept : ℕ)
    × (IsOtherSum part.Block at kept bytes (table.Damaged d) ⊎ (option_map (λ (f : Fault). damage.Shape part.Block (at + f.place) f.rule) (block_fault bytes) ≡ Some d))

-- the device or a damage of a block, and not memory
abbrev pub IsNotMemory : TableFault → Type 0
IsNotMemory table.Memory = ⊥
IsNotMemory (table.Device cause) = Unit {0}
IsNotMemory (table.Damaged d) = IsBlockDamage d

-- the fault that the definitions of tables speak of
abbrev pub filter_fault_of : (Bytes → Fault) → Bytes → FilterFault
filter_fault_of first bytes = record { place = (first bytes).place; rule = (first bytes).rule }

abbrev pub IsDamagedFilter : Spelling → (Bytes → Fault) → Row → Image → TableFault → Type 0
IsDamagedFilter spelling first row image table.Memory = Unit {0}
IsDamagedFilter spelling first row image (table.Device cause) = ⊥
IsDamagedFilter spelling first row image (table.Damaged d) = IsFilterDamage spelling (filter_fault_of first) row image d

-- Over any device: a damage is of this part; a sum is another one than the kept one, and a rule is broken at a byte of the part
-- or after it.
abbrev pub IsDamageOf : Part → ℕ → ℕ → TableFault → Type 0
IsDamageOf which at kept table.Memory = Unit {0}
IsDamageOf which at kept (table.Device cause) = Unit {0}
IsDamageOf which at kept (table.Damaged (damage.Sum part_is place kept_is seen)) = (part_is ≡ which) × (place ≡ at) × (kept_is ≡ kept) × (kept ≢ seen)
IsDamageOf which at kept (table.Damaged (damage.Shape part_is place rule)) = (part_is ≡ which) × (at ≤ place)

-- a damage is that of the index; the device may fail, and memory may be short
abbrev pub IsIndexAnswer : Row → Image → TableFault → Type 0
IsIndexAnswer row image table.Memory = Unit {0}
IsIndexAnswer row image (table.Device cause) = Unit {0}
IsIndexAnswer row image (table.Damaged d) = index_damage row image ≡ Some d

-- that of the filter
abbrev pub IsFilterAnswer : Spelling → (Bytes → Fault) → Row → Image → TableFault → Type 0
IsFilterAnswer spelling first row image table.Memory = Unit {0}
IsFilterAnswer spelling first row image (table.Device cause) = Unit {0}
IsFilterAnswer spelling first row image (table.Damaged d) = IsFilterDamage spelling (filter_fault_of first) row image d

-- a damage is that of the index, or where it has none, that of the filter
abbrev pub IsDamagedTable : Spelling → (Bytes → Fault) → Row → Image → TableFault → Type 0
IsDamagedTable spelling first row image table.Memory = Unit {0}
IsDamagedTable spelling first row image (table.Device cause) = Unit {0}
IsDamagedTable spelling first row image (table.Damaged d) =
    (index_damage row image ≡ Some d) ⊎ ((index_damage row image ≡ None) × IsFilterDamage spelling (filter_fault_of first) row image d)

-- the device fails at this byte, and only where the count of failed reads rose
abbrev pub HasReadCause : ℕ → World → World → TableFault → Type 0
HasReadCause at old new table.Memory = Unit {0}
HasReadCause at old new (table.Device cause) = IsFaultOf Read at cause × Rose old.seen.read_faults new.seen.read_faults
HasReadCause at old new (table.Damaged d) = Unit {0}

-- at the first byte of index or filter
abbrev pub HasOpenCause : Row → World → World → TableFault → Type 0
HasOpenCause row old new table.Memory = Unit {0}
HasOpenCause row old new (table.Device cause) =
    (IsFaultOf Read (byte_of_page (index_page row)) cause ⊎ IsFaultOf Read (byte_of_page (filter_page row)) cause) × Rose old.seen.read_faults new.seen.read_faults
HasOpenCause row old new (table.Damaged d) = Unit {0}
