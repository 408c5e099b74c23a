-- What stands before the first part of an install.
use Rattle.std.specs.Prelude.{Bool}
use Rattle.disk_trait.specs.Image.{Image}
use Rattle.manifest_model.specs.Installs.{Install}
use Rattle.manifest_model.specs.Slots.{IsCurrent, IsGate}

-- the version in use stands, and the gate of the other slot is as it is said to be
pub record MayClose (i : Install) (said : Bool) (image : Image) : Type 0 where
  pub current : IsCurrent i.slot i.other i.from image
  pub gate : IsGate said (image i.other)
