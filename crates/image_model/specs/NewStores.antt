-- A new store, and the image that stands for it.
use Rattle.std.specs.Prelude.{◌≡◌, ◌≢◌, ◌≤◌, ℕ, false}
use Rattle.disk_trait.specs.Image.{Image, Shows}
use Rattle.filter_api.specs.Ranges.{InRange}
use Rattle.filter_api.specs.Spellings.{Spelling}
use Rattle.filter_api.specs.declared.settings.Settings.{Settings}
use Rattle.key_base.specs.Limits.{max_device_pages, max_ratio, min_device_pages}
use Rattle.log_model.specs.Area.{start_of}
pub use Rattle.manifest_model.specs.NewVersion.{new_version}
use Rattle.manifest_model.specs.Slots.{IsOpenSlot}
use Rattle.manifest_model.specs.Version.{body_bytes, body_place, slot_a, slot_b}
use Rattle.state_model.specs.State.{new_state}
use Rattle.image_model.specs.Stands.{IsReady, IsStateOf}

-- slot A holds the version of a new store in format 2, slot B is closed, and so is the first gate of the log
pub record IsFormatted (settings : Settings) (pages : ℕ) (image : Image) : Type 0 where
  pub gate : IsOpenSlot slot_a image
  pub body : Shows (body_place slot_a) (body_bytes 2 (new_version settings pages)) image
  pub other_gate : image slot_b ≢ 1
  pub log_gate : image (start_of 0) ≡ 0

abbrev pub NewStoreStands : Type 0
NewStoreStands =
    (spelling : Spelling) (settings : Settings) (pages : ℕ) (image : Image) → InRange settings → settings.ratio ≤ max_ratio → min_device_pages ≤ pages → pages ≤ max_device_pages
    → IsFormatted settings pages image → IsStateOf spelling (new_state settings pages) image

-- and what a store keeps of it is this: slot A is in use, and slot B is closed
abbrev pub NewStoreIsReady : Type 0
NewStoreIsReady =
    (spelling : Spelling) (settings : Settings) (pages : ℕ) (image : Image) → InRange settings → settings.ratio ≤ max_ratio → min_device_pages ≤ pages → pages ≤ max_device_pages
    → IsFormatted settings pages image → IsReady spelling slot_a slot_b false (new_version settings pages) (new_state settings pages) image
