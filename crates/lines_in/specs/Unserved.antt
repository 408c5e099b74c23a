-- How a run ends that answers no line: its last line, and what a crash may leave where nothing was written.
use Rattle.std.specs.Prelude.{◌≡◌, ◌⊎◌, ◌++◌, ℕ}
use Rattle.disk_trait.specs.World.{World}
use Rattle.map_model.specs.SortedMap.{Bytes}
use Rattle.outside.specs.During.{During}
use Rattle.outside.specs.Streams.{SaysPrefix}
use Rattle.lines_in.specs.Statuses.{output_status}

-- a last line of this status was said whole, or a prefix of it at 6
abbrev pub LastLine : (ℕ → Bytes → Type 0) → ℕ → World → World → Type 0
LastLine IsText status old new =
    (meant : ℕ) × (text : Bytes) × IsText meant text
    × (((status ≡ meant) × (new.beside.said ≡ old.beside.said ++ text)) ⊎ ((status ≡ output_status) × SaysPrefix text old.beside.said new.beside.said))

-- each image that a crash may leave at any moment is one that it might have left at the start
abbrev pub Untouched : World → World → Type 0
Untouched old new = During (λ said image. old.leaves old.moment image) old new

-- No line was answered: nothing was taken, and nothing was written.
pub record Unserved (IsText : ℕ → Bytes → Type 0) (status : ℕ) (old new : World) : Type 0 where
  pub input : new.beside.to_take ≡ old.beside.to_take
  pub line : LastLine IsText status old new
  pub crash : Untouched old new
