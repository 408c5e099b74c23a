-- A version takes the place of another one: three writes into the slot that is not in use, and what an image says in each.
use Rattle.std.specs.Prelude.{◌≢◌, ◌≡◌, ◌⊎◌, ◌<◌, ℕ, [], ◌∷◌, length}
use Rattle.disk_trait.specs.Image.{Image, Shows, Torn, overwritten}
use Rattle.map_model.specs.SortedMap.{Bytes}
use Rattle.manifest_model.specs.Laws.{IsVersion}
use Rattle.manifest_model.specs.Reading.{body_format}
use Rattle.manifest_model.specs.Slots.{AreSlots, HoldsVersion, IsCurrent, IsOpenSlot, IsVersionOf, body_in}
use Rattle.manifest_model.specs.Version.{Version, body_bytes, body_place}

-- the slot in use and the other one, the version in use and the one to come
pub record Install : Type 0 where
  pub slot : ℕ
  pub other : ℕ
  pub from : Version
  pub to : Version

pub record MayInstall (i : Install) : Type 0 where
  pub slots : AreSlots i.slot i.other
  pub later : i.from.epoch < i.to.epoch
  pub sound : IsVersion i.to

-- ---- what stands before each write, and behind the last

-- the version in use stands in its slot, and the other slot is open and holds a lesser one
pub record IsOpenStill (i : Install) (image : Image) : Type 0 where
  pub here : HoldsVersion i.slot i.from image
  pub older : Version
  pub there : HoldsVersion i.other older image
  pub lesser : older.epoch < i.from.epoch

-- the other slot is closed
pub record IsClosed (i : Install) (image : Image) : Type 0 where
  pub here : HoldsVersion i.slot i.from image
  pub closed : image i.other ≢ 1

-- the body of the version to come stands behind its closed gate, in format 2
pub record IsWritten (i : Install) (image : Image) : Type 0 where
  pub before : IsClosed i image
  pub body : Shows (body_place i.other) (body_bytes 2 i.to) image

-- the version to come stands in the other slot, in format 2, and the one before it where it was
pub record IsInstalled (i : Install) (image : Image) : Type 0 where
  pub here : HoldsVersion i.other i.to image
  pub format : here.format ≡ 2
  pub there : HoldsVersion i.slot i.from image

-- the version of the image is one of the two
abbrev pub IsOldOrNew : Install → Image → Type 0
IsOldOrNew i image = IsVersionOf i.from image ⊎ IsVersionOf i.to image

-- ---- before the first: the other slot is open and is to be closed, or it is closed, and then that write is left out

abbrev pub BeginsOpen : Type 0
BeginsOpen = (i : Install) (image : Image) → IsCurrent i.slot i.other i.from image → IsOpenSlot i.other image → IsOpenStill i image

abbrev pub BeginsClosed : Type 0
BeginsClosed = (i : Install) (image : Image) → IsCurrent i.slot i.other i.from image → image i.other ≢ 1 → IsClosed i image

-- ---- the three writes

-- A write of some bytes: where an image had P, each that it may leave when cut short has Q, and the whole one has R.
pub record WriteTurns (P Q R : Image → Type 0) (at : ℕ) (bytes : Bytes) : Type 0 where
  pub first : (old : Image) → P old → Q old
  pub torn : (old new : Image) → P old → Torn at (length bytes) old new → Q new
  pub done : (old new : Image) → P old → new ≡ overwritten old at bytes → R new

abbrev pub ClosesTheGate : Type 0
ClosesTheGate = (i : Install) → MayInstall i → WriteTurns (IsOpenStill i) (IsVersionOf i.from) (IsClosed i) i.other (0 ∷ [])

abbrev pub WritesTheBody : Type 0
WritesTheBody = (i : Install) → MayInstall i → WriteTurns (IsClosed i) (IsVersionOf i.from) (IsWritten i) (body_place i.other) (body_bytes 2 i.to)

abbrev pub OpensTheGate : Type 0
OpensTheGate = (i : Install) → MayInstall i → WriteTurns (IsWritten i) (IsOldOrNew i) (IsInstalled i) i.other (1 ∷ [])

-- ---- behind the last: the version to come is in use, and the slots have changed over

abbrev pub InstalledIsInUse : Type 0
InstalledIsInUse = (i : Install) (image : Image) → MayInstall i → IsInstalled i image → IsCurrent i.other i.slot i.to image

-- and its body is in format 2, whatever the format of the one before
abbrev pub InstalledIsInFormat2 : Type 0
InstalledIsInFormat2 = (i : Install) (image : Image) → IsInstalled i image → body_format (body_in i.other image) ≡ 2
