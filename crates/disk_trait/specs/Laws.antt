-- The laws of images.
use Rattle.std.specs.Prelude.{◌≡◌, ℕ, List, length}
use Rattle.disk_trait.specs.Image.{Image, IsApart, window, overwritten, Torn}

-- what was written is read
abbrev pub ReadsBack : Type 0
ReadsBack = (image : Image) (at : ℕ) (bytes : List ℕ) → window (overwritten image at bytes) at (length bytes) ≡ bytes

-- what lies apart from a range, done or cut short, is read as before
abbrev pub ReadsElsewhere : Type 0
ReadsElsewhere = (at n : ℕ) (old new : Image) (from size : ℕ) → IsApart from size at n → Torn at n old new → window new from size ≡ window old from size

-- a whole write is one of those that may be cut short
abbrev pub MayBeTorn : Type 0
MayBeTorn = (image : Image) (at : ℕ) (bytes : List ℕ) → Torn at (length bytes) image (overwritten image at bytes)

-- two that are cut short in one range are as one
abbrev pub TearsTwice : Type 0
TearsTwice = (at n : ℕ) (first second third : Image) → Torn at n first second → Torn at n second third → Torn at n first third
