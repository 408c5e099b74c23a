-- What is read of a device.
use Rattle.std.specs.Prelude.{◌≡◌, ℕ}
use Rattle.disk_trait.specs.World.{Image, Rose, World}
use Rattle.fst_run.specs.declared.body.Unread.{Unread}
use Rattle.fst_run.specs.declared.body.Unread.TheVariants as unread
use Rattle.line_model.specs.Replies.{Device, Memory, text_of}
use Rattle.lines_in.specs.Statuses.{device_status, memory_status, store_status}
use Rattle.map_model.specs.SortedMap.{Bytes}
use Rattle.map_run_model.specs.Files.{IsThere, bytes_read}
use Rattle.map_run_model.specs.LastLines.{not_a_map_text}

-- a map is there, and these are its bytes
pub record IsFetched (image : Image) (bytes : Bytes) : Type 0 where
  pub there : IsThere image
  pub bytes_are : bytes ≡ bytes_read image

-- the device failed
abbrev pub ReadFailed : World → World → Type 0
ReadFailed old new = Rose old.seen.read_faults new.seen.read_faults

-- why nothing was read
abbrev pub IsUnread : Unread → World → World → Type 0
IsUnread unread.Memory old new = Unit {0}
IsUnread unread.Device old new = ReadFailed old new
IsUnread unread.NoMap old new = Unit {0}

abbrev pub IsNoMapThere : Unread → Image → Type 0
IsNoMapThere unread.Memory image = Unit {0}
IsNoMapThere unread.Device image = Unit {0}
IsNoMapThere unread.NoMap image = IsThere image → ⊥

abbrev pub unread_text : Unread → Bytes
unread_text unread.Memory = text_of Memory
unread_text unread.Device = text_of Device
unread_text unread.NoMap = not_a_map_text

abbrev pub unread_status : Unread → ℕ
unread_status unread.Memory = memory_status
unread_status unread.Device = device_status
unread_status unread.NoMap = store_status
