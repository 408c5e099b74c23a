-- What a format says and leaves.
use Rattle.std.specs.Prelude.{◌≡◌, ◌⊎◌, ◌+◌, ◌++◌, ◌∷◌, [], ℕ, Bool, true, false, Option, Some, None, codes, decimal}
use Rattle.disk_trait.specs.World.{Meanwhile, Now, Passes, Torn, World}
use Rattle.filter_api.specs.Spellings.{Spelling}
use Rattle.filter_api.specs.declared.settings.Field.{Field}
use Rattle.filter_api.specs.declared.settings.Field.TheVariants as field
use Rattle.filter_api.specs.declared.settings.Settings.{Settings}
use Rattle.image_model.specs.Stands.{IsStateOf}
use Rattle.line_model.specs.Replies.{Device, Memory, text_of}
use Rattle.lines_in.specs.Unserved.{LastLine, Untouched}
use Rattle.lines_in.specs.Statuses.{done_status, device_status, memory_status, store_status}
use Rattle.log_model.specs.Area.{start_of}
use Rattle.manifest.specs.NewManifest.{has_open}
use Rattle.manifest_model.specs.Slots.{IsNoStore}
use Rattle.map_model.specs.SortedMap.{Bytes}
use Rattle.state_model.specs.State.{new_state}
use Rattle.store_core.specs.Formatting.{IsNoneOrNew, first_bad}

-- ---- the lines

abbrev pub formatted_text : ℕ → Bytes
formatted_text pages = codes "formatted " ++ decimal pages ++ 10 ∷ []

abbrev pub already_text : Bytes
already_text = codes "already a store" ++ 10 ∷ []

abbrev pub field_word : Field → Bytes
field_word field.Pages = codes "pages"
field_word field.Variant = codes "variant"
field_word field.HashBits = codes "hash-bits"
field_word field.RealBits = codes "real-bits"
field_word field.Ratio = codes "ratio"
field_word field.Count = codes "count"

abbrev pub bad_settings_text : Field → Bytes
bad_settings_text field = codes "bad settings " ++ field_word field ++ 10 ∷ []

-- The last line of a format of a given number of pages, by its status: over a device with a store or none, of numbers of which the first
-- bad one is this.
abbrev pub IsFormatText : Option Field → Bool → ℕ → ℕ → Bytes → Type 0
IsFormatText bad there pages status text =
    ((bad ≡ None) × (there ≡ false) × (status ≡ done_status) × (text ≡ formatted_text pages))
    ⊎ ((bad ≡ None) × (there ≡ true) × (status ≡ store_status) × (text ≡ already_text))
    ⊎ ((bad ≡ None) × (there ≡ false) × (status ≡ memory_status) × (text ≡ text_of Memory))
    ⊎ ((bad ≡ None) × (status ≡ device_status) × (text ≡ text_of Device))
    ⊎ ((field : Field) × (bad ≡ Some field) × (status ≡ store_status) × (text ≡ bad_settings_text field))

-- ---- what it leaves

-- Nothing changes after the first gate of the first log area: neither what the device reads as, nor what a crash may leave at
-- any later moment, beside what it might have left at the start.
pub record WritesInFront (old new : World) : Type 0 where
  pub held : Torn 0 (start_of 0 + 1) old.seen.held new.seen.held
  pub time : Passes (Torn 0 (start_of 0 + 1)) old new

-- A format over a device that tells. Where no image had an open slot at the start, each image that a crash may leave meanwhile is
-- no store or the new one, and at status 0 the new one alone. A store that is there stays as it is, and so does all where a number is
-- out of range.
pub record Formatted (spelling : Spelling) (settings : Settings) (pages status : ℕ) (old new : World) : Type 0 where
  pub line : LastLine (IsFormatText (first_bad settings pages) (has_open old.seen.held) pages) status old new
  pub meanwhile : Now IsNoStore old → Meanwhile (IsNoneOrNew spelling settings pages) old new
  pub made : Now IsNoStore old → status ≡ done_status → Now (IsStateOf spelling (new_state settings pages)) new
  pub stays : has_open old.seen.held ≡ true → Untouched old new
  pub refused : (field : Field) → first_bad settings pages ≡ Some field → Untouched old new
