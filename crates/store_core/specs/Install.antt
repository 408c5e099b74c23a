-- The tables of a merge that is done take the place of those that it read.
use Rattle.std.specs.Prelude.{◌==◌, ◌&&◌, ◌||◌, ℕ, nat_lt, Bool, if◌then◌else◌, List, [], ◌∷◌, fold, length, ◌≡◌, ◌≢◌, ◌<◌, true, false, Result, OnOk, OnErr}
use Rattle.std.specs.List.{list_any}
use Rattle.byte_fields.specs.declared.parts.Row.{Row}
use Rattle.disk_trait.specs.World.{Meanwhile, Rose, World}
use Rattle.filter_api.specs.Spellings.{Spelling}
use Rattle.image_model.specs.Stands.{StandsForMap}
use Rattle.key_base.specs.ByteOrder.{is_before}
use Rattle.key_base.specs.Limits.{last_epoch}
use Rattle.level_merge.specs.JobValue.{JobValue}
use Rattle.line_model.specs.Replies.{LastEpoch}
use Rattle.manifest.specs.Manifest.{Manifest}
use Rattle.manifest_model.specs.Version.{Version}
use Rattle.merge_rows.specs.Steps.{numbers}
use Rattle.state_model.specs.State.{Job, State, without_job}
use Rattle.state_model.specs.Tends.{installed}
use Rattle.state_model.specs.View.{state_map}
use Rattle.store_core.specs.Answers.{is_write, told_limit}
use Rattle.store_core.specs.Represents.{Represents}
use Rattle.store_core.specs.StoreValue.{StoreValue}
use Rattle.store_core.specs.declared.error.StoreError.{StoreError}
use Rattle.table_file.specs.Opened.{Opened}
use Rattle.table_model.specs.Tables.{FilterBytes}
use Rattle.store_core.specs.declared.error.StoreError.TheVariants as error

-- ---- tables in their order

-- the first is of a lesser level, or of the same one with lesser keys
abbrev pub goes_before : Opened → Opened → Bool
goes_before t u = nat_lt t.row.level u.row.level || ((t.row.level == u.row.level) && is_before t.index.least u.index.least)

-- a table in its place: before the first that it goes before
abbrev pub put_in : List Opened → Opened → List Opened
put_in [] new = new ∷ []
put_in (t ∷ more) new = if goes_before new t then new ∷ t ∷ more else t ∷ put_in more new

-- those of other numbers; tables are numbered from the last, which has 0
abbrev pub others_in : {A : Type 0} → List ℕ → List A → List A
others_in which [] = []
others_in which (t ∷ later) = if list_any (λ (n : ℕ). n == length later) which then others_in which later else t ∷ others_in which later

-- those of a merge in the place of those that it read
abbrev pub tables_behind : List Opened → JobValue → List Opened
tables_behind tables m = fold put_in (others_in (numbers m.merge.walks) tables) m.made

-- the version with other rows
abbrev pub merged_manifest : Manifest → List Row → Manifest
merged_manifest m rows = record m { version = record m.version { rows = rows } }

-- ---- the install

-- The version of a merge that is done is installed: meanwhile a crash leaves the map of the state. At Ok the store is that of the
-- state after the install, for which an epoch was left; where it is refused and not stopped, that of the state without its job.
pub record Installs {T : Type 0} (spelling : Spelling) (filter_bytes : FilterBytes) (s : State) (job : Job) (result : Result T StoreError) (store : StoreValue) (old new : World) : Type 0 where
  pub meanwhile : Meanwhile (StandsForMap spelling (state_map s)) old new
  pub epoch : OnOk result (s.epoch ≢ last_epoch)
  pub done : OnOk result (Represents spelling filter_bytes store (installed s job) new)
  pub refused : OnErr result (store.stopped ≡ false → Represents spelling filter_bytes store (without_job s) new)

-- memory; a write or a sync that failed, where an epoch is left, and only where the count of such failures rose; or none is left
abbrev pub IsInstallRefusal : Version → World → World → StoreError → Type 0
IsInstallRefusal v old new error.Memory = Unit {0}
IsInstallRefusal v old new (error.Device cause) = (is_write cause.op ≡ true) × Rose old.seen.write_faults new.seen.write_faults × (v.epoch < last_epoch)
IsInstallRefusal v old new error.Stopped = ⊥
IsInstallRefusal v old new (error.Limit limit) = (told_limit limit ≡ LastEpoch) × (v.epoch ≡ last_epoch)
IsInstallRefusal v old new (error.Full need gap) = ⊥
IsInstallRefusal v old new (error.Damaged damage) = ⊥
IsInstallRefusal v old new error.NotAStore = ⊥
IsInstallRefusal v old new error.AlreadyAStore = ⊥
IsInstallRefusal v old new (error.BadSettings field) = ⊥
