-- The two slots of a device, and the version that an image holds: that of the open slot, or of two open ones that of the
-- greater epoch.
use Rattle.std.specs.Prelude.{◌≡◌, ◌≢◌, ◌-◌, ◌⊎◌, ◌<◌, ◌==◌, ℕ, Bool, true, false, ◌&&◌, if◌then◌else◌, Option, None}
use Rattle.std.specs.Option.{option_or}
use Rattle.disk_trait.specs.Image.{Image, Shows, window}
use Rattle.key_base.specs.Limits.{slot_bytes}
use Rattle.byte_fields.specs.declared.parts.Damage.{Damage}
use Rattle.map_model.specs.SortedMap.{Bytes}
use Rattle.manifest_model.specs.Laws.{IsVersion}
use Rattle.manifest_model.specs.Reading.{body_damage, shape_at, version_in}
use Rattle.manifest_model.specs.Tables.{epochs_fault}
use Rattle.manifest_model.specs.Version.{MaySpell, Version, body_bytes, body_place, slot_a, slot_b}

-- ---- a slot

-- a gate byte as it is said to be: an open gate reads 1, and every other byte is a closed one
abbrev pub IsGate : Bool → ℕ → Type 0
IsGate true byte = byte ≡ 1
IsGate false byte = byte ≢ 1

abbrev pub IsOpenSlot : ℕ → Image → Type 0
IsOpenSlot slot image = image slot ≡ 1

-- the slot is open, and the body of a version that keeps the rules stands in it, in a format that can spell it
pub record HoldsVersion (slot : ℕ) (v : Version) (image : Image) : Type 0 where
  pub is_open : IsOpenSlot slot image
  pub sound : IsVersion v
  pub format : ℕ
  pub may : MaySpell format v
  pub body : Shows (body_place slot) (body_bytes format v) image

-- the slot is closed, or holds a version of a lesser epoch
abbrev pub HoldsOlder : ℕ → ℕ → Image → Type 0
HoldsOlder slot epoch image = (image slot ≢ 1) ⊎ ((v : Version) × HoldsVersion slot v image × v.epoch < epoch)

-- ---- both slots

-- in either order
abbrev pub AreSlots : ℕ → ℕ → Type 0
AreSlots slot other = ((slot ≡ slot_a) × (other ≡ slot_b)) ⊎ ((slot ≡ slot_b) × (other ≡ slot_a))

-- the slot is the one in use
pub record IsCurrent (slot other : ℕ) (v : Version) (image : Image) : Type 0 where
  pub here : HoldsVersion slot v image
  pub there : HoldsOlder other v.epoch image

-- the version of an image
abbrev pub IsVersionOf : Version → Image → Type 0
IsVersionOf v image = IsCurrent slot_a slot_b v image ⊎ IsCurrent slot_b slot_a v image

-- no slot is open
abbrev pub IsNoStore : Image → Type 0
IsNoStore image = (image slot_a ≢ 1) × (image slot_b ≢ 1)

-- ---- what is wrong with them

-- the bytes of a slot behind its gate and the seven bytes after it
unfoldable pub body_room : ℕ
body_room = slot_bytes - 8

abbrev pub body_in : ℕ → Image → Bytes
body_in slot image = window image (body_place slot) body_room

-- the damage of a slot's body, where the slot is open
abbrev pub slot_damage : ℕ → Image → Option Damage
slot_damage slot image = if image slot == 1 then body_damage slot (body_in slot image) else None

-- rule 11, of two open slots
abbrev pub epochs_damage : Image → Option Damage
epochs_damage image =
    if (image slot_a == 1) && (image slot_b == 1)
    then shape_at slot_b (epochs_fault (version_in (body_in slot_a image)) (version_in (body_in slot_b image))) None
    else None

-- the first damage: of slot A, of slot B, of both together
abbrev pub slots_damage : Image → Option Damage
slots_damage image = option_or (slot_damage slot_a image) (option_or (slot_damage slot_b image) (epochs_damage image))
