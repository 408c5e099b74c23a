-- What a run of `settings` and of `grow` says and leaves.
use Rattle.std.specs.Prelude.{◌≡◌, ◌⊎◌, ◌*◌, ◌++◌, ◌∷◌, [], ℕ, List, Option, Some, None, Result, Ok, Err, codes, decimal}
use Rattle.block_model.specs.Pages.{page_bytes}
use Rattle.clap.specs.Walk.{Text}
use Rattle.disk_trait.specs.World.{Image, World}
use Rattle.filter_api.specs.Ranges.{InRange}
use Rattle.filter_api.specs.declared.settings.Field.{Field}
use Rattle.filter_api.specs.declared.settings.Settings.{Settings}
use Rattle.image_model.specs.Stands.{StandsFor}
use Rattle.key_base.specs.Limits.{last_epoch}
use Rattle.line_model.specs.Replies.{Device, LastEpoch, Memory, Reply, text_of}
use Rattle.lines_in.specs.Causes.{DiskFailed, WritesWithin}
use Rattle.lines_in.specs.Unserved.{LastLine, Untouched}
use Rattle.lines_in.specs.Statuses.{done_status, device_status, damaged_status, output_status, memory_status, store_status, last_epoch_status}
use Rattle.manifest_model.specs.Slots.{IsNoStore, IsVersionOf}
use Rattle.manifest_model.specs.Version.{Version}
use Rattle.map_model.specs.SortedMap.{Bytes}
use Rattle.outside.specs.During.{During}
use Rattle.program_words.specs.Asked.{IsGrow, IsSettingsInRange}
use Rattle.state_model.specs.Resets.{with_pages, with_settings}
use Rattle.state_model.specs.State.{State}
use Rattle.store_core.specs.Answers.{told_limit}
use Rattle.store_core.specs.Resetting.{IsMade, bad_pages}
use Rattle.store_core.specs.declared.error.StoreError.{StoreError}
use Rattle.store_core.specs.declared.error.StoreError.TheVariants as error
use Rattle.surf_run.specs.Crash.{EachImageStandsFor}
use Rattle.surf_run.specs.Formats.{bad_settings_text}
use Rattle.surf_run.specs.Kind.{Kind}
use Rattle.surf_run.specs.Open.{OpenMoves, no_store_text}
use Rattle.surf_run.specs.declared.new_numbers.NewNumbers.{NewNumbers}
use Rattle.surf_run.specs.declared.new_numbers.NewNumbers.TheVariants as new

-- ---- the numbers

-- words that ask for them
abbrev pub AskFor : List Text → NewNumbers → Type 0
AskFor words (new.Settings settings) = IsSettingsInRange words settings
AskFor words (new.Pages pages) = IsGrow words pages

-- what they make of a state
abbrev pub renumbered : NewNumbers → State → Result State Reply
renumbered (new.Settings settings) s = with_settings settings s
renumbered (new.Pages pages) s = with_pages pages s

-- Settings are looked at with the words, pages by those that the store has.
abbrev pub AreInRange : NewNumbers → Type 0
AreInRange (new.Settings settings) = InRange settings
AreInRange (new.Pages pages) = Unit {0}

-- the number that is out of range for a store of a given number of pages
abbrev pub bad_number : NewNumbers → ℕ → Option Field
bad_number (new.Settings settings) now = None
bad_number (new.Pages pages) now = bad_pages now pages

-- ---- the lines

abbrev pub settings_text : Settings → Bytes
settings_text settings = codes "settings " ++ (decimal settings.hash_bits ++ 32 ∷ (decimal settings.real_bits ++ 32 ∷ (decimal settings.ratio ++ 10 ∷ [])))

abbrev pub grown_text : ℕ → Bytes
grown_text pages = codes "grown " ++ decimal pages ++ 10 ∷ []

abbrev pub done_text : NewNumbers → Bytes
done_text (new.Settings settings) = settings_text settings
done_text (new.Pages pages) = grown_text pages

-- ---- what the run leaves

-- The last line, by its status: over a store of a state, which has the new numbers then; at the last epoch; with a number that is
-- out of range for it; for lack of memory; where a call of the device failed. In the second, third and fourth case nothing was written.
abbrev pub IsResetText : Kind → NewNumbers → State → World → World → ℕ → Bytes → Type 0
IsResetText kind numbers s old new status text =
    ((status ≡ done_status) × (bad_number numbers s.pages ≡ None) × (to : State) × (renumbered numbers s ≡ Ok to) × EachImageStandsFor kind to new × (text ≡ done_text numbers))
    ⊎ ((status ≡ last_epoch_status) × (bad_number numbers s.pages ≡ None) × (renumbered numbers s ≡ Err LastEpoch) × Untouched old new × (text ≡ text_of LastEpoch))
    ⊎ ((status ≡ store_status) × (field : Field) × (bad_number numbers s.pages ≡ Some field) × Untouched old new × (text ≡ bad_settings_text field))
    ⊎ ((status ≡ memory_status) × Untouched old new × (text ≡ text_of Memory))
    ⊎ ((status ≡ device_status) × DiskFailed old new × (text ≡ text_of Device))

-- the image stands for the state before or for the one with the new numbers, and not for its map alone
abbrev pub HasOldOrNewNumbers : Kind → NewNumbers → State → Image → Type 0
HasOldOrNewNumbers kind numbers s image = StandsFor kind.spelling s image ⊎ IsMade (renumbered numbers s) (λ to. StandsFor kind.spelling to image)

-- New numbers for a store of a state: its last line, and that nothing is taken; at each moment a crash leaves the state before or
-- the one with the new numbers; and nothing is written after the pages of the store.
pub record ResetEnds (kind : Kind) (numbers : NewNumbers) (status : ℕ) (s : State) (old new : World) : Type 0 where
  pub line : LastLine (IsResetText kind numbers s old new) status old new
  pub input : new.beside.to_take ≡ old.beside.to_take
  pub crash : During (λ said image. HasOldOrNewNumbers kind numbers s image) old new
  pub writes : WritesWithin (page_bytes * s.pages) old new

-- The store was opened, with nothing written, taken or said by then; and it was given new numbers.
pub record OpenedThenReset (kind : Kind) (numbers : NewNumbers) (status : ℕ) (s : State) (old opened new : World) : Type 0 where
  pub opens : OpenMoves old opened
  pub ends : ResetEnds kind numbers status s opened new

-- the statuses of a run of it
abbrev pub IsResetting : ℕ → Type 0
IsResetting status = (status ≡ done_status) ⊎ (status ≡ device_status) ⊎ (status ≡ damaged_status) ⊎ (status ≡ output_status) ⊎ (status ≡ memory_status) ⊎ (status ≡ store_status) ⊎ (status ≡ last_epoch_status)

-- where no call fails
abbrev pub IsResetEnd : ℕ → Type 0
IsResetEnd status = (status ≡ done_status) ⊎ (status ≡ memory_status) ⊎ (status ≡ store_status) ⊎ (status ≡ last_epoch_status)

-- ---- status 8, whatever is on the device

-- this number is out of range for the store that is there
abbrev pub HasBadNumberFor : NewNumbers → Field → Image → Type 0
HasBadNumberFor numbers field image = (v : Version) × IsVersionOf v image × (bad_number numbers v.pages ≡ Some field)

-- the version of the store that is there has the last epoch
abbrev pub IsInLastEpoch : Image → Type 0
IsInLastEpoch image = (v : Version) × IsVersionOf v image × (v.epoch ≡ last_epoch)

-- no store is there, or one for which a number is out of range; and where the output tells, the line says which
abbrev pub TellsWhich : Type 0 → NewNumbers → Image → World → World → Type 0
TellsWhich Told numbers image old new =
    (IsNoStore image × (Told → new.beside.said ≡ old.beside.said ++ no_store_text))
    ⊎ ((field : Field) × HasBadNumberFor numbers field image × (Told → new.beside.said ≡ old.beside.said ++ bad_settings_text field))

-- ---- refusals

-- why a running store refuses them, and nothing else
abbrev pub IsOfReset : StoreError → Type 0
IsOfReset error.Memory = Unit {0}
IsOfReset (error.Device cause) = Unit {0}
IsOfReset error.Stopped = ⊥
IsOfReset (error.Limit limit) = told_limit limit ≡ LastEpoch
IsOfReset (error.Full need gap) = ⊥
IsOfReset (error.Damaged damage) = ⊥
IsOfReset error.NotAStore = ⊥
IsOfReset error.AlreadyAStore = ⊥
IsOfReset (error.BadSettings field) = Unit {0}

abbrev pub reset_status : StoreError → ℕ
reset_status error.Memory = memory_status
reset_status (error.Device cause) = device_status
reset_status (error.Limit limit) = last_epoch_status
reset_status (error.BadSettings field) = store_status
reset_status other = done_status

abbrev pub refusal_text : StoreError → Bytes
refusal_text error.Memory = text_of Memory
refusal_text (error.Device cause) = text_of Device
refusal_text (error.Limit limit) = text_of (told_limit limit)
refusal_text (error.BadSettings field) = bad_settings_text field
refusal_text other = []
