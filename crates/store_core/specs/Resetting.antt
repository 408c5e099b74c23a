-- What other settings, and more pages, make of a store, and why they are refused.
use Rattle.std.specs.Prelude.{◌≡◌, ◌⊎◌, ◌<◌, ◌-◌, ◌||◌, ℕ, Bool, true, false, nat_lt, if◌then◌else◌, Option, Some, None, Result, Ok, Err, OnOk, OnErr}
use Rattle.disk_trait.specs.World.{Meanwhile, ReadMoves, Rose, World}
use Rattle.filter_api.specs.Spellings.{Spelling}
use Rattle.filter_api.specs.declared.settings.Field.{Field}
use Rattle.filter_api.specs.declared.settings.Field.TheVariants as field
use Rattle.image_model.specs.Stands.{StandsFor}
use Rattle.key_base.specs.Limits.{last_epoch, max_device_pages}
use Rattle.line_model.specs.Replies.{LastEpoch, Reply}
use Rattle.manifest_model.specs.Version.{Version}
use Rattle.state_model.specs.State.{State}
use Rattle.store_core.specs.Answers.{is_write, stops, told_limit}
use Rattle.store_core.specs.StoreValue.{StoreValue}
use Rattle.store_core.specs.Represents.{Represents}
use Rattle.store_core.specs.declared.error.StoreError.{StoreError}
use Rattle.store_core.specs.declared.error.StoreError.TheVariants as error
use Rattle.table_model.specs.Tables.{FilterBytes}

-- ---- which numbers are out of range

-- a number of pages below that of the store, or over the most
abbrev pub bad_pages : ℕ → ℕ → Option Field
bad_pages now pages = if nat_lt pages now || nat_lt max_device_pages pages then Some field.Pages else None

-- ---- on a device that stands for a state

-- the change is made, and the state after it has P
abbrev pub IsMade : Result State Reply → (State → Type 0) → Type 0
IsMade (Ok to) P = P to
IsMade (Err why) P = ⊥

-- A change of a state's numbers: at each moment a crash leaves the state before it or the one after it, not its map alone. At
-- Ok the store is that of the second; where it is refused and not stopped, that of the first, with its job.
pub record Resets {T : Type 0} (spelling : Spelling) (filter_bytes : FilterBytes) (from : State) (change : Result State Reply) (result : Result T StoreError) (store : StoreValue) (old new : World) : Type 0 where
  pub meanwhile : Meanwhile (λ image. StandsFor spelling from image ⊎ IsMade change (λ to. StandsFor spelling to image)) old new
  pub done : OnOk result (IsMade change (λ to. Represents spelling filter_bytes store to new))
  pub refused : OnErr result (store.stopped ≡ false → Represents spelling filter_bytes store from new)

-- ---- whatever the device holds

-- The version is installed in the other slot, and no merge runs. Where a write or a sync failed the store is stopped, and none
-- runs either; where it is refused before, all is as it was.
abbrev pub reset_by : {T : Type 0} → Result T StoreError → Version → StoreValue → StoreValue
reset_by (Ok done) version store = record store { manifest = record { version = version; slot = 1 - store.manifest.slot; other_open = true }; job = None }
reset_by (Err why) version store = if stops why then record store { stopped = true; job = None } else store

-- nothing refuses it: the store runs, no number is out of range, and an epoch is left
pub record MayReset (stopped : Bool) (bad : Option Field) (epoch : ℕ) : Type 0 where
  pub running : stopped ≡ false
  pub in_range : bad ≡ None
  pub left : epoch < last_epoch

-- Why it is refused, of a store that was stopped or not, of numbers of which the first bad one is this, and of a version of this
-- epoch. A bad number is told before any call of the device; memory may be told in the place of the last epoch, no sooner; a
-- write or a sync failed only where the count of such failures rose.
abbrev pub IsResetRefusal : Bool → Option Field → ℕ → World → World → StoreError → Type 0
IsResetRefusal stopped bad epoch old new error.Memory = (stopped ≡ false) × (bad ≡ None) × ReadMoves 0 old new
IsResetRefusal stopped bad epoch old new (error.Device cause) = MayReset stopped bad epoch × (is_write cause.op ≡ true) × Rose old.seen.write_faults new.seen.write_faults
IsResetRefusal stopped bad epoch old new error.Stopped = (stopped ≡ true) × ReadMoves 0 old new
IsResetRefusal stopped bad epoch old new (error.Limit limit) = (stopped ≡ false) × (bad ≡ None) × (told_limit limit ≡ LastEpoch) × (epoch ≡ last_epoch) × ReadMoves 0 old new
IsResetRefusal stopped bad epoch old new (error.Full need gap) = ⊥
IsResetRefusal stopped bad epoch old new (error.Damaged damage) = ⊥
IsResetRefusal stopped bad epoch old new error.NotAStore = ⊥
IsResetRefusal stopped bad epoch old new error.AlreadyAStore = ⊥
IsResetRefusal stopped bad epoch old new (error.BadSettings field) = (stopped ≡ false) × (bad ≡ Some field) × ReadMoves 0 old new
