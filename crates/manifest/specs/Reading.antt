-- What reading a body looks at, one step after the other.
use Rattle.std.specs.Prelude.{◌≡◌, ◌+◌, ℕ, [], Option, Some}
use Rattle.std.specs.Option.{option_or}
use Rattle.byte_fields.specs.Faults.{Fault}
use Rattle.byte_fields.specs.declared.parts.Damage.{Damage}
use Rattle.byte_fields.specs.declared.parts.Damage.TheVariants as damage
use Rattle.byte_fields.specs.declared.parts.Part.TheVariants as part
use Rattle.map_model.specs.SortedMap.{Bytes}
use Rattle.filter_api.specs.declared.settings.Settings.{Settings}
use Rattle.manifest_model.specs.Laws.{IsVersion}
use Rattle.manifest_model.specs.Reading.{body_format, extents_fault, kept_sum, levels_fault, row_zeros_fault, table_rows_fault, table_rows_in, seen_sum, version_in}
use Rattle.manifest_model.specs.Version.{MaySpell, body_bytes, body_place}
use Rattle.manifest.specs.declared.fault.ManifestFault.{ManifestFault}
use Rattle.manifest.specs.declared.fault.ManifestFault.TheVariants as fault

-- the first of rules 7 to 10 that rows break, in a format, with the settings in the head, on a device of so many pages; the
-- bytes begin with them
abbrev pub rows_broken : ℕ → Settings → ℕ → ℕ → Bytes → Option Fault
rows_broken format head pages count rest =
    option_or (row_zeros_fault format count 64 rest)
    (option_or (table_rows_fault 64 (table_rows_in format head count rest))
    (option_or (levels_fault 64 0 (table_rows_in format head count rest))
    (extents_fault pages 64 [] (table_rows_in format head count rest))))

-- the bytes are those of the version that is read from them, in their format, and it keeps the rules
pub record IsSpelled (bytes : Bytes) : Type 0 where
  pub sound : IsVersion (version_in bytes)
  pub may : MaySpell (body_format bytes) (version_in bytes)
  pub spelled : body_bytes (body_format bytes) (version_in bytes) ≡ bytes

-- ---- what is wrong with the body of a slot

abbrev pub shape_of : ℕ → Fault → Damage
shape_of slot f = damage.Shape part.Manifest (body_place slot + f.place) f.rule

abbrev pub sum_of : ℕ → Bytes → Damage
sum_of slot bytes = damage.Sum part.Manifest (body_place slot) (kept_sum bytes) (seen_sum bytes)

-- want of memory is free, the device may fail, and damage is the one that is found
abbrev pub IsDamage : Option Damage → ManifestFault → Type 0
IsDamage found fault.Memory = Unit {0}
IsDamage found (fault.Device cause) = Unit {0}
IsDamage found fault.NotAStore = ⊥
IsDamage found fault.AlreadyAStore = ⊥
IsDamage found fault.Epoch = ⊥
IsDamage found (fault.Damaged damage) = found ≡ Some damage

-- the same of bytes that are there, which no device can fail to read
abbrev pub IsBodyDamage : Option Damage → ManifestFault → Type 0
IsBodyDamage found fault.Memory = Unit {0}
IsBodyDamage found (fault.Device cause) = ⊥
IsBodyDamage found fault.NotAStore = ⊥
IsBodyDamage found fault.AlreadyAStore = ⊥
IsBodyDamage found fault.Epoch = ⊥
IsBodyDamage found (fault.Damaged damage) = found ≡ Some damage
