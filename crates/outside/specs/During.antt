-- What a crash may leave at each moment of a run, beside how many bytes had been said by then.
use Rattle.std.specs.Prelude.{◌≡◌, ℕ, ◌≤◌}
use Rattle.disk_trait.specs.World.{Image, World}

-- At each moment from one to another, Q holds of how many bytes had been said by it and of each image that a crash may
-- leave at it; and what was so of the moments before is as it was.
pub record During (Q : ℕ → Image → Type 0) (old new : World) : Type 0 where
  pub later : old.moment ≤ new.moment
  pub kept : (m : ℕ) (image : Image) → m ≤ old.moment → new.leaves m image → old.leaves m image
  pub told_kept : (m : ℕ) → m ≤ old.moment → new.beside.said_by m ≡ old.beside.said_by m
  pub each : (m : ℕ) (image : Image) → old.moment ≤ m → m ≤ new.moment → new.leaves m image → Q (new.beside.said_by m) image
