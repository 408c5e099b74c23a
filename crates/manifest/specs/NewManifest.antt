-- A device that has the version of a new store, or none.
use Rattle.std.specs.Prelude.{◌≡◌, ◌≢◌, ◌⊎◌, ◌==◌, ◌||◌, Bool}
use Rattle.disk_trait.specs.Image.{Image}
use Rattle.manifest_model.specs.Slots.{HoldsVersion, IsNoStore, IsVersionOf}
use Rattle.manifest_model.specs.Version.{Version, slot_a, slot_b}

-- a gate reads 1
abbrev pub has_open : Image → Bool
has_open image = (image slot_a == 1) || (image slot_b == 1)

-- slot A holds it, in format 2, and slot B is closed
pub record IsNew (v : Version) (image : Image) : Type 0 where
  pub here : HoldsVersion slot_a v image
  pub format : here.format ≡ 2
  pub closed : image slot_b ≢ 1

-- no version, or that one
abbrev pub IsNewOrNone : Version → Image → Type 0
IsNewOrNone v image = IsNoStore image ⊎ IsVersionOf v image
