-- What a store keeps of its manifest, and the slot that its next version goes to.
use Rattle.std.specs.Prelude.{◌+◌, ◌-◌, ◌*◌, ℕ, Bool}
use Rattle.disk_trait.specs.Image.{Image}
use Rattle.key_base.specs.Limits.{slot_bytes}
use Rattle.manifest_model.specs.Installs.{Install}
use Rattle.manifest_model.specs.Slots.{IsCurrent, IsGate}
use Rattle.manifest_model.specs.Version.{Version}

-- a version, the slot in use (0 is slot A, 1 is slot B), and whether the gate of the other one reads 1
pub record Manifest : Type 0 where
  pub version : Version
  pub slot : ℕ
  pub other_open : Bool

-- the first byte of a slot, and of the other one
abbrev pub place_of : ℕ → ℕ
place_of slot = slot_bytes * slot

abbrev pub other_place : ℕ → ℕ
other_place slot = slot_bytes * (1 - slot)

-- the image has this version in this slot, and the gate of the other one is as it is said to be
pub record StandsInSlot (slot : ℕ) (said : Bool) (v : Version) (image : Image) : Type 0 where
  pub current : IsCurrent (place_of slot) (other_place slot) v image
  pub gate : IsGate said (image (other_place slot))

-- the version that comes behind it
abbrev pub raised : Version → Version
raised v = record v { epoch = v.epoch + 1 }

-- what is handed in takes the place of a version, with its epoch raised
abbrev pub install_of : Manifest → Version → Install
install_of m from = record { slot = place_of m.slot; other = other_place m.slot; from = from; to = raised m.version }
