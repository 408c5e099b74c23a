-- What a format leaves, and why it is refused.
use Rattle.std.specs.Prelude.{◌≡◌, ◌⊎◌, ℕ, Bool, true, false, ◌||◌, nat_lt, if◌then◌else◌, Option, Some, None}
use Rattle.disk_trait.specs.Image.{Image}
use Rattle.disk_trait.specs.World.{ReadMoves, World}
use Rattle.filter_api.specs.Spellings.{Spelling}
use Rattle.filter_api.specs.declared.settings.Field.{Field}
use Rattle.filter_api.specs.declared.settings.Field.TheVariants as field
use Rattle.filter_api.specs.declared.settings.Settings.{Settings}
use Rattle.image_model.specs.Stands.{IsStateOf}
use Rattle.key_base.specs.Limits.{max_device_pages, max_hash_bits, max_real_bits, min_device_pages}
use Rattle.manifest.specs.declared.fault.ManifestFault.{ManifestFault}
use Rattle.manifest.specs.declared.fault.ManifestFault.TheVariants as fault
use Rattle.manifest_model.specs.Slots.{IsNoStore}
use Rattle.state_model.specs.State.{new_state}
use Rattle.store_core.specs.Opening.{FaultRose}
use Rattle.store_core.specs.declared.error.StoreError.{StoreError}
use Rattle.store_core.specs.declared.error.StoreError.TheVariants as error

-- the first of the settings that is out of range; the ratio's range is that of its type
abbrev pub first_bad_setting : Settings → Option Field
first_bad_setting settings =
    if nat_lt max_hash_bits settings.hash_bits then Some field.HashBits
    else if nat_lt max_real_bits settings.real_bits then Some field.RealBits
    else None

-- the first number of a new store that is
abbrev pub first_bad : Settings → ℕ → Option Field
first_bad settings pages = if nat_lt pages min_device_pages || nat_lt max_device_pages pages then Some field.Pages else first_bad_setting settings

-- no store, or the new one
abbrev pub IsNoneOrNew : Spelling → Settings → ℕ → Image → Type 0
IsNoneOrNew spelling settings pages image = IsNoStore image ⊎ IsStateOf spelling (new_state settings pages) image

-- why a manifest is not made
abbrev pub IsMakeFault : World → World → ManifestFault → Type 0
IsMakeFault old new fault.Memory = Unit {0}
IsMakeFault old new (fault.Device cause) = FaultRose old new cause
IsMakeFault old new fault.NotAStore = ⊥
IsMakeFault old new fault.AlreadyAStore = Unit {0}
IsMakeFault old new fault.Epoch = ⊥
IsMakeFault old new (fault.Damaged damage) = ⊥

-- not because there is one
abbrev pub IsNotThere : ManifestFault → Type 0
IsNotThere fault.Memory = Unit {0}
IsNotThere (fault.Device cause) = Unit {0}
IsNotThere fault.NotAStore = Unit {0}
IsNotThere fault.AlreadyAStore = ⊥
IsNotThere fault.Epoch = Unit {0}
IsNotThere (fault.Damaged damage) = Unit {0}

-- Why a format is refused, of numbers of which the first bad one is this. That one is told before any call of the device.
abbrev pub IsFormatRefusal : Option Field → World → World → StoreError → Type 0
IsFormatRefusal bad old new error.Memory = bad ≡ None
IsFormatRefusal bad old new (error.Device cause) = (bad ≡ None) × FaultRose old new cause
IsFormatRefusal bad old new error.Stopped = ⊥
IsFormatRefusal bad old new (error.Limit limit) = ⊥
IsFormatRefusal bad old new (error.Full need gap) = ⊥
IsFormatRefusal bad old new (error.Damaged damage) = ⊥
IsFormatRefusal bad old new error.NotAStore = ⊥
IsFormatRefusal bad old new error.AlreadyAStore = bad ≡ None
IsFormatRefusal bad old new (error.BadSettings field) = (bad ≡ Some field) × ReadMoves 0 old new

-- a store is there exactly where it is said to be
abbrev pub IsThereAnswer : Bool → StoreError → Type 0
IsThereAnswer there error.AlreadyAStore = there ≡ true
IsThereAnswer there error.Memory = there ≡ false
IsThereAnswer there (error.Device cause) = Unit {0}
IsThereAnswer there error.Stopped = Unit {0}
IsThereAnswer there (error.Limit limit) = Unit {0}
IsThereAnswer there (error.Full need gap) = Unit {0}
IsThereAnswer there (error.Damaged damage) = Unit {0}
IsThereAnswer there error.NotAStore = Unit {0}
IsThereAnswer there (error.BadSettings field) = Unit {0}
