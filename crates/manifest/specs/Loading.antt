-- What loading answers of an image.
use Rattle.std.specs.Prelude.{◌≡◌, ◌≢◌, ◌≤◌, ℕ, false, Option, None, Some}
use Rattle.byte_fields.specs.declared.parts.Damage.{Damage}
use Rattle.byte_fields.specs.Faults.{fault as rule_at}
use Rattle.disk_trait.specs.Image.{Image, Shows}
use Rattle.manifest_model.specs.Laws.{IsVersion}
use Rattle.manifest_model.specs.Slots.{HoldsVersion, IsNoStore, body_in, slot_damage, slots_damage}
use Rattle.manifest_model.specs.Reading.{version_in}
use Rattle.manifest_model.specs.Version.{MaySpell, Version, body_bytes, body_place, slot_b}
use Rattle.manifest.specs.Manifest.{Manifest, StandsInSlot}
use Rattle.manifest.specs.Reading.{shape_of}
use Rattle.manifest.specs.declared.fault.ManifestFault.{ManifestFault}
use Rattle.manifest.specs.declared.fault.ManifestFault.TheVariants as fault

-- the version that was found stands, in the slot and beside the gate that it says
pub record IsLoaded (image : Image) (found : Manifest) : Type 0 where
  pub slot : found.slot ≤ 1
  pub stands : StandsInSlot found.slot found.other_open found.version image

-- no store exactly where no slot is open, and damage is the first of the slots; memory and the device are free
abbrev pub IsLoadAnswer : Image → ManifestFault → Type 0
IsLoadAnswer image fault.Memory = Unit {0}
IsLoadAnswer image (fault.Device cause) = Unit {0}
IsLoadAnswer image fault.NotAStore = IsNoStore image
IsLoadAnswer image fault.AlreadyAStore = ⊥
IsLoadAnswer image fault.Epoch = ⊥
IsLoadAnswer image (fault.Damaged damage) = slots_damage image ≡ Some damage

-- memory or the device, and not what was read
abbrev pub IsFree : ManifestFault → Type 0
IsFree fault.Memory = Unit {0}
IsFree (fault.Device cause) = Unit {0}
IsFree fault.NotAStore = ⊥
IsFree fault.AlreadyAStore = ⊥
IsFree fault.Epoch = ⊥
IsFree (fault.Damaged damage) = ⊥

-- these, or that it is no store
abbrev pub IsNoStoreAnswer : ManifestFault → Type 0
IsNoStoreAnswer fault.Memory = Unit {0}
IsNoStoreAnswer (fault.Device cause) = Unit {0}
IsNoStoreAnswer fault.NotAStore = Unit {0}
IsNoStoreAnswer fault.AlreadyAStore = ⊥
IsNoStoreAnswer fault.Epoch = ⊥
IsNoStoreAnswer (fault.Damaged damage) = ⊥

-- ---- steps

-- the body of a sound version stands in a slot, in a format that can spell it
pub record IsVersionAt (slot : ℕ) (v : Version) (image : Image) : Type 0 where
  pub sound : IsVersion v
  pub format : ℕ
  pub may : MaySpell format v
  pub body : Shows (body_place slot) (body_bytes format v) image

-- an open slot without damage, and the version that is read from it
pub record IsFoundIn (slot : ℕ) (v : Version) (image : Image) : Type 0 where
  pub holds : HoldsVersion slot v image
  pub none : slot_damage slot image ≡ None
  pub read : version_in (body_in slot image) ≡ v

-- what is answered of a slot: none exactly where its gate reads other than 1
abbrev pub IsSlotAnswer : ℕ → Image → Option Manifest → Type 0
IsSlotAnswer slot image None = image slot ≢ 1
IsSlotAnswer slot image (Some found) = IsFoundIn slot found.version image

-- a version that is read from a slot alone: of the other one nothing is known
abbrev pub IsOfSlot : ℕ → Manifest → Type 0
IsOfSlot slot found = (found.slot ≡ slot) × (found.other_open ≡ false)

-- two slots of one epoch
abbrev pub one_epoch : Damage
one_epoch = shape_of slot_b (rule_at 8 11)
