-- What calls leave as it was, on each image, whatever is there.
use Rattle.std.specs.Prelude.{◌≡◌, ◌⊎◌, ◌<◌, ◌≤◌, ◌+◌, ◌*◌, ℕ, List, [], ◌∷◌}
use Rattle.block_model.specs.Pages.{page_bytes}
use Rattle.block_model.specs.Places.{byte_of_page, pages_of}
use Rattle.byte_fields.specs.declared.parts.Row.{Row}
use Rattle.disk_trait.specs.Image.{Image}
use Rattle.disk_trait.specs.World.{Passes, World}
use Rattle.key_base.specs.Limits.{log_bytes, slot_bytes}
use Rattle.manifest.specs.Manifest.{Manifest, place_of}

-- ---- places

-- one of a given number of bytes from a place on
abbrev pub IsWithin : ℕ → ℕ → ℕ → Type 0
IsWithin at n place = (at ≤ place) × (place < at + n)

-- in the pages of a table of one of these rows
abbrev pub IsInTables : List Row → ℕ → Type 0
IsInTables [] place = ⊥
IsInTables (row ∷ rows) place = IsWithin (byte_of_page row.first_page) (page_bytes * pages_of row) place ⊎ IsInTables rows place

-- in the slot in use, in a given number of bytes of the log in use, or in the pages of a table of the version
abbrev pub IsInUse : Manifest → ℕ → ℕ → Type 0
IsInUse m logged place =
    IsWithin (place_of m.slot) slot_bytes place ⊎ IsWithin (byte_of_page m.version.log_page) logged place ⊎ IsInTables m.version.rows place

-- in use, or elsewhere in the log area in use; but not in a record of a given number of bytes that is put after the log, where it fits
abbrev pub IsBesideRecord : Manifest → ℕ → ℕ → ℕ → Type 0
IsBesideRecord m logged size place =
    IsInUse m log_bytes place × (logged + size ≤ log_bytes → IsWithin (byte_of_page m.version.log_page + logged) size place → ⊥)

-- ---- images

-- an image has at these places what another one had
abbrev pub KeepsPlaces : (ℕ → Type 0) → Image → Image → Type 0
KeepsPlaces P was image = (place : ℕ) → P place → image place ≡ was place

-- Calls left these places as they were: on the device, and on each image that a crash may have left since.
pub record LeavesPlaces (P : ℕ → Type 0) (old new : World) : Type 0 where
  pub held : KeepsPlaces P old.seen.held new.seen.held
  pub time : Passes (KeepsPlaces P) old new
