-- What a store answers to a merge slice: it is a merge slice of its state.
use Rattle.std.specs.Prelude.{◌≡◌, ◌⊎◌, ◌<◌, ◌+◌, ℕ, Bool, true, false, List, Option, Some, None, Result, Ok, Err, IsErr, MatchResult}
use Rattle.std.specs.Option.{option_map}
use Rattle.disk_trait.specs.Image.{Image}
use Rattle.disk_trait.specs.World.{Meanwhile, Moves, ReadMoves, World}
use Rattle.filter_api.specs.Spellings.{Spelling}
use Rattle.filter_api.specs.declared.settings.Settings.{Settings}
use Rattle.image_model.specs.Stands.{StandsForMap, settings_of}
use Rattle.key_base.specs.Limits.{last_epoch}
use Rattle.level_merge.specs.Follows.{IsJobRefusal, IsSliced}
use Rattle.level_merge.specs.JobValue.{AreAllWritten, JobValue, begun, work_left}
use Rattle.level_merge.specs.Plans.{Agree, IsPlanOf, MayStart, PlanByNumbers}
use Rattle.level_merge.specs.SliceSteps.{HasNoRoom}
use Rattle.level_merge.specs.declared.fault.JobFault.{JobFault}
use Rattle.level_merge.specs.declared.fault.JobFault.TheVariants as job
use Rattle.level_merge.specs.declared.fault.Sliced.{Sliced}
use Rattle.line_model.specs.Replies as reply
use Rattle.manifest_model.specs.Version.{Version}
use Rattle.merge_rows.specs.Reads.{AreAtEnd, PassSound}
use Rattle.merge_rows.specs.Steps.{numbers}
use Rattle.state_model.specs.Merges.{choose}
use Rattle.state_model.specs.State.{Job, State, without_job}
use Rattle.state_model.specs.Tends as model
use Rattle.state_model.specs.Tends.{Progresses, Runs, Tend, with_job}
use Rattle.state_model.specs.View.{state_map}
use Rattle.store_core.specs.Answers.{HasCause, stops, told, told_limit}
use Rattle.store_core.specs.Install.{tables_behind}
use Rattle.store_core.specs.Running.{extents_with}
use Rattle.store_core.specs.Staying.{IsAsItWas}
use Rattle.store_core.specs.StoreValue.{StoreValue, rows_of}
use Rattle.store_core.specs.Opening.{FaultRose}
use Rattle.store_core.specs.Represents.{Represents, RepresentsOn}
use Rattle.store_core.specs.declared.error.StoreError.{StoreError}
use Rattle.store_core.specs.declared.error.StoreError.TheVariants as error
use Rattle.store_core.specs.declared.tending.Tended.{Tended}
use Rattle.store_core.specs.declared.tending.Tended.TheVariants as tended
use Rattle.table_file.specs.Faults.{IsBlockDamage}
use Rattle.table_file.specs.Opened.{Opened}
use Rattle.table_model.specs.Tables.{FilterBytes, Table}

-- ---- the answer

-- as the state's
abbrev pub told_slice : Result Tended StoreError → Option model.Tended
told_slice (Ok tended.Worked) = Some model.Worked
told_slice (Ok tended.Idle) = Some model.Idle
told_slice (Ok (tended.Full need gap)) = Some (model.Refused (reply.Full need gap))
told_slice (Err why) = option_map (λ (r : reply.Reply). model.Refused r) (told why)

-- From a state a merge slice is answered so: by a merge slice of that state. At each moment meanwhile a crash leaves its map.
-- The store is then that of the state after the merge slice, unless it is stopped.
pub record Tends (spelling : Spelling) (filter_bytes : FilterBytes) (s : State) (told_as : Option model.Tended) (store : StoreValue) (old new : World) : Type 0 where
  pub tended : model.Tended
  pub told_is : told_as ≡ Some tended
  pub after : State
  pub slice : Tend (HasCause old new) filter_bytes s tended after
  pub crash : Meanwhile (StandsForMap spelling (state_map s)) old new
  pub tied : store.stopped ≡ false → Represents spelling filter_bytes store after new

-- ---- whatever the device is

-- no state that has these tables chooses some of them
abbrev pub NoneIsChosen : List Opened → Type 0
NoneIsChosen tables = (of_state : List Table) → Agree tables of_state → choose of_state ≡ None

-- where no merge runs and none is to be begun no call is made and nothing changes; an output that has no room drops its merge
abbrev pub IsTended : StoreValue → StoreValue → World → World → Tended → Type 0
IsTended before after old new tended.Worked = Unit {0}
IsTended before after old new tended.Idle = (before.job ≡ None) × NoneIsChosen before.tables × (after ≡ before) × ReadMoves 0 old new
IsTended before after old new (tended.Full need gap) = (after.job ≡ None) × (gap < need)

-- why a merge slice is refused, of a store that was stopped or not, whose version has this epoch
abbrev pub IsTendRefusal : Bool → ℕ → World → World → StoreError → Type 0
IsTendRefusal stopped epoch old new error.Memory = stopped ≡ false
IsTendRefusal stopped epoch old new (error.Device cause) = (stopped ≡ false) × FaultRose old new cause
IsTendRefusal stopped epoch old new error.Stopped = stopped ≡ true
IsTendRefusal stopped epoch old new (error.Limit limit) = (stopped ≡ false) × (told_limit limit ≡ reply.LastEpoch) × (epoch ≡ last_epoch)
IsTendRefusal stopped epoch old new (error.Full need gap) = ⊥
IsTendRefusal stopped epoch old new (error.Damaged damage) = (stopped ≡ false) × IsBlockDamage damage
IsTendRefusal stopped epoch old new error.NotAStore = ⊥
IsTendRefusal stopped epoch old new error.AlreadyAStore = ⊥
IsTendRefusal stopped epoch old new (error.BadSettings field) = ⊥

-- where nothing is to be merged, an output has no room, or a merge slice is refused and does not stop the store, it is as it was
abbrev pub SliceStays : Result Tended StoreError → StoreValue → StoreValue → Type 0
SliceStays (Ok tended.Worked) before after = Unit {0}
SliceStays (Ok tended.Idle) before after = IsAsItWas before after
SliceStays (Ok (tended.Full need gap)) before after = IsAsItWas before after
SliceStays (Err why) before after = stops why ≡ false → IsAsItWas before after

-- the merge that runs in a store, or one that begins among its tables where none does
abbrev pub IsMergeAtHand : StoreValue → JobValue → Type 0
IsMergeAtHand store m =
    (store.job ≡ Some m) ⊎ ((store.job ≡ None) × ((p : PlanByNumbers) × MayStart store.tables p × (m ≡ begun p (settings_of store.manifest.version) store.tables)))

-- a merge as it is later: it reads the same tables, with the same settings, into the same level
abbrev pub IsSameMerge : JobValue → JobValue → Type 0
IsSameMerge m later = (numbers later.merge.walks ≡ numbers m.merge.walks) × (later.output ≡ m.output) × (later.settings ≡ m.settings)

-- The tables of a merge that is done, all written, take the place of those that it read, and are those of the version: no merge runs,
-- and the epoch is one higher.
pub record IsInstalledOf (before : StoreValue) (done : JobValue) (after : StoreValue) : Type 0 where
  pub written : AreAllWritten done
  pub tables : after.tables ≡ tables_behind before.tables done
  pub rows : after.manifest.version.rows ≡ rows_of after.tables
  pub no_job : after.job ≡ None
  pub epoch : after.manifest.version.epoch ≡ before.manifest.version.epoch + 1

-- less is left of this merge, and nothing else has changed; or it is installed as it is then
abbrev pub HasWorked : StoreValue → JobValue → StoreValue → Type 0
HasWorked before m after =
    (later : JobValue) × IsSameMerge m later
    × (((after ≡ record before { job = Some later }) × (work_left before.tables later < work_left before.tables m)) ⊎ IsInstalledOf before later after)

-- where that is the answer
abbrev pub IsWorkOf : StoreValue → JobValue → StoreValue → Tended → Type 0
IsWorkOf before m after tended.Worked = HasWorked before m after
IsWorkOf before m after tended.Idle = ⊥
IsWorkOf before m after (tended.Full need gap) = Unit {0}

-- Over a device that tells: each block that this merge passed with the merge slice is sound; and where it was installed no block of its
-- tables was left out.
pub record WorksOnSound (before : StoreValue) (image : Image) (m : JobValue) (after : StoreValue) : Type 0 where
  pub later : JobValue
  pub passes : PassSound before.tables image m.merge.walks later.merge.walks
  pub done : (after.job ≡ Some later) ⊎ ((after.job ≡ None) × AreAtEnd before.tables later.merge.walks)

-- where that is the answer
abbrev pub IsSoundWorkOf : StoreValue → Image → JobValue → StoreValue → Tended → Type 0
IsSoundWorkOf before image m after tended.Worked = WorksOnSound before image m after
IsSoundWorkOf before image m after tended.Idle = Unit {0}
IsSoundWorkOf before image m after (tended.Full need gap) = Unit {0}

-- so of the merge that runs, or of the one that begins
abbrev pub IsSoundWork : StoreValue → Image → StoreValue → Tended → Type 0
IsSoundWork before image after tended.Worked = (m : JobValue) × IsMergeAtHand before m × WorksOnSound before image m after
IsSoundWork before image after tended.Idle = Unit {0}
IsSoundWork before image after (tended.Full need gap) = Unit {0}

-- so of the merge that runs, or of the one that begins
abbrev pub IsWork : StoreValue → StoreValue → Tended → Type 0
IsWork before after tended.Worked = (m : JobValue) × IsMergeAtHand before m × HasWorked before m after
IsWork before after tended.Idle = Unit {0}
IsWork before after (tended.Full need gap) = Unit {0}

-- Where an output of a merge has no room under a version: the need is that of an output of it with an entry or more, and the gap
-- the largest beside the version's rows and its outputs so far.
abbrev pub IsWithoutRoomOf : FilterBytes → Version → JobValue → Tended → Type 0
IsWithoutRoomOf filter_bytes v m tended.Worked = Unit {0}
IsWithoutRoomOf filter_bytes v m tended.Idle = Unit {0}
IsWithoutRoomOf filter_bytes v m (tended.Full need gap) = HasNoRoom filter_bytes m.settings v.pages (extents_with v m.outputs) (job.Full need gap)

-- so of the merge that runs, or of the one that begins
abbrev pub IsWithoutRoom : FilterBytes → StoreValue → Tended → Type 0
IsWithoutRoom filter_bytes before tended.Worked = Unit {0}
IsWithoutRoom filter_bytes before tended.Idle = Unit {0}
IsWithoutRoom filter_bytes before (tended.Full need gap) =
    (m : JobValue) × IsMergeAtHand before m × IsWithoutRoomOf filter_bytes before.manifest.version m (tended.Full need gap)

-- reads, and writes on a given number of bytes of the device
abbrev pub SomeMoves : ℕ → World → World → Type 0
SomeMoves bytes old new = (most : ℕ) × Moves 0 bytes most old new

-- ---- in parts

-- A merge that begins among some tables is that of a plan, which each state that has these tables chooses. Where there is none
-- no such state chooses one.
abbrev pub IsBegunAmong : List Opened → Settings → Option JobValue → Type 0
IsBegunAmong tables settings None = NoneIsChosen tables
IsBegunAmong tables settings (Some m) =
    (p : PlanByNumbers) × MayStart tables p × (m ≡ begun p settings tables) × ((of_state : List Table) → Agree tables of_state → IsPlanOf of_state (Some p) (choose of_state))

-- where a merge is taken up, it is the one that runs or one that begins
abbrev pub IsMergeTakenOut : StoreValue → Option JobValue → Type 0
IsMergeTakenOut store None = Unit {0}
IsMergeTakenOut store (Some m) = IsMergeAtHand store m

-- The merge that runs, or one that begins where none does, is that of a job of the state, as each image on which the store is
-- shows it. Where there is none nothing is to be merged.
abbrev pub IsNext : Spelling → StoreValue → State → Option JobValue → Type 0
IsNext spelling store s None = (s.job ≡ None) × (choose s.tables ≡ None)
IsNext spelling store s (Some m) =
    (job : Job) × Runs s job × ((image : Image) → RepresentsOn spelling store.manifest store.tables store.job s image
    → RepresentsOn spelling store.manifest store.tables (Some m) (with_job s job) image)

-- the job goes on, and the store is with its merge as it is then
pub record GoesOn (spelling : Spelling) (filter_bytes : FilterBytes) (store : StoreValue) (s : State) (job : Job) (m : JobValue) (w : World) (sliced : Sliced) : Type 0 where
  pub later : Job
  pub progresses : Progresses filter_bytes s job later
  pub said : IsSliced s job later sliced
  pub tied : Represents spelling filter_bytes (record store { job = Some m }) (with_job s later) w

-- A merge slice of the merge that follows a job of a state: meanwhile a crash leaves the map of the state. The job goes on, or
-- it is refused with its cause and the store is without it.
pub record SlicesJob (spelling : Spelling) (filter_bytes : FilterBytes) (store : StoreValue) (s : State) (job : Job) (m : JobValue) (result : Result Sliced JobFault) (old new : World) : Type 0 where
  pub meanwhile : Meanwhile (StandsForMap spelling (state_map s)) old new
  pub done : MatchResult result (GoesOn spelling filter_bytes store s job m new) (IsJobRefusal filter_bytes s job old new)
  pub dropped : IsErr result → Represents spelling filter_bytes (record store { job = None }) (without_job s) new

-- what a merge slice that is refused is answered
abbrev pub answer_to : JobFault → Result Tended StoreError
answer_to job.Memory = Err error.Memory
answer_to (job.Device cause) = Err (error.Device cause)
answer_to (job.Damaged damage) = Err (error.Damaged damage)
answer_to (job.Full need gap) = Ok (tended.Full need gap)
