-- The laws of slots: what they hold is what is read of them, and what is written elsewhere changes nothing.
use Rattle.std.specs.Prelude.{◌≡◌, ◌⊎◌, ◌<◌, ◌≤◌, ◌+◌, ℕ, None}
use Rattle.byte_fields.specs.Spelling.{IsBytes}
use Rattle.disk_trait.specs.Image.{Image, IsApart, Torn}
use Rattle.key_base.specs.Limits.{slot_bytes}
use Rattle.manifest_model.specs.Reading.{body_damage, body_format, version_in}
use Rattle.manifest_model.specs.Slots.{AreSlots, HoldsVersion, HoldsOlder, IsCurrent, IsNoStore, IsOpenSlot, IsVersionOf, body_in, slots_damage}
use Rattle.manifest_model.specs.Version.{Version, slot_a, slot_b}

-- ---- a slot

-- the version that a slot holds is read from it, and breaks no rule
abbrev pub HeldIsRead : Type 0
HeldIsRead =
    (slot : ℕ) (v : Version) (image : Image) → HoldsVersion slot v image
    → (body_damage slot (body_in slot image) ≡ None) × (version_in (body_in slot image) ≡ v)

-- and its format is the one that its bytes name
abbrev pub HeldHasItsFormat : Type 0
HeldHasItsFormat = (slot : ℕ) (v : Version) (image : Image) (held : HoldsVersion slot v image) → body_format (body_in slot image) ≡ held.format

-- what is read from an open slot and breaks no rule is held
abbrev pub ReadIsHeld : Type 0
ReadIsHeld =
    (slot : ℕ) (image : Image) → IsOpenSlot slot image → IsBytes (body_in slot image) → body_damage slot (body_in slot image) ≡ None
    → HoldsVersion slot (version_in (body_in slot image)) image

-- ---- the version of an image

-- there is one at most
abbrev pub OneVersion : Type 0
OneVersion = (image : Image) (v w : Version) → IsVersionOf v image → IsVersionOf w image → v ≡ w

-- of two that are held it is the one of the greater epoch, and not the other one
abbrev pub GreaterEpochIsInUse : Type 0
GreaterEpochIsInUse =
    (slot other : ℕ) (v older : Version) (image : Image) → AreSlots slot other → HoldsVersion slot v image → HoldsVersion other older image → older.epoch < v.epoch
    → IsVersionOf v image × (IsVersionOf older image → ⊥)

-- there is none without an open slot, and none where an open slot breaks a rule, or both have one epoch
abbrev pub NoStoreHasNoVersion : Type 0
NoStoreHasNoVersion = (v : Version) (image : Image) → IsNoStore image → IsVersionOf v image → ⊥

abbrev pub VersionHasNoDamage : Type 0
VersionHasNoDamage = (v : Version) (image : Image) → IsVersionOf v image → slots_damage image ≡ None

-- bytes without damage are no store, or have a version
abbrev pub VersionIsFound : Type 0
VersionIsFound =
    (image : Image) → IsBytes (body_in slot_a image) → IsBytes (body_in slot_b image) → slots_damage image ≡ None
    → IsNoStore image ⊎ ((v : Version) × IsVersionOf v image)

-- ---- what is written elsewhere, done or cut short

-- apart from the slot: its gate, the seven bytes behind it and its body
abbrev pub IsApartFromSlot : ℕ → ℕ → ℕ → Type 0
IsApartFromSlot slot at n = IsApart slot slot_bytes at n

-- the range lies in the slot
abbrev pub IsInSlot : ℕ → ℕ → ℕ → Type 0
IsInSlot slot at n = (slot ≤ at) × (at + n ≤ slot + slot_bytes)

abbrev pub SlotIsKept : Type 0
SlotIsKept = (slot at n : ℕ) (v : Version) (old new : Image) → IsApartFromSlot slot at n → Torn at n old new → HoldsVersion slot v old → HoldsVersion slot v new

abbrev pub OlderIsKept : Type 0
OlderIsKept =
    (slot epoch at n : ℕ) (old new : Image) → IsApartFromSlot slot at n → Torn at n old new → HoldsOlder slot epoch old → HoldsOlder slot epoch new

-- whatever is written into the other slot, the one in use holds its version
abbrev pub InUseIsKept : Type 0
InUseIsKept =
    (slot other at n : ℕ) (v : Version) (old new : Image) → AreSlots slot other → IsInSlot other at n → Torn at n old new → IsCurrent slot other v old → HoldsVersion slot v new

-- and apart from both the version is the same, in the same slot
abbrev pub CurrentIsKept : Type 0
CurrentIsKept =
    (slot other at n : ℕ) (v : Version) (old new : Image) → IsApartFromSlot slot at n → IsApartFromSlot other at n → Torn at n old new
    → IsCurrent slot other v old → IsCurrent slot other v new

abbrev pub VersionIsKept : Type 0
VersionIsKept =
    (at n : ℕ) (v : Version) (old new : Image) → IsApartFromSlot slot_a at n → IsApartFromSlot slot_b at n → Torn at n old new
    → IsVersionOf v old → IsVersionOf v new
