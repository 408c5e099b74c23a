-- What a merge slice makes of a state: some of the work of the merge that runs.
use Rattle.std.specs.Prelude.{◌≡◌, ◌≢◌, ◌⊎◌, ◌≤◌, ◌<◌, ◌+◌, ℕ, nat_lt, ◌==◌, Bool, not, ◌&&◌, ◌||◌, if◌then◌else◌, List, [], ◌∷◌, ◌++◌, length, take, drop, filter, fold, Option, Some, None, Result, Ok, Err, IsOk}
use Rattle.std.specs.List.{list_any, sum_by}
use Rattle.byte_fields.specs.declared.parts.Damage.{Damage}
use Rattle.extent_model.specs.Extents.{Extent}
use Rattle.filter_api.specs.declared.settings.Settings.{Settings}
use Rattle.key_base.specs.Limits.{last_epoch}
use Rattle.map_model.specs.Slices.{is_before}
use Rattle.range_model.specs.Sources.{Source}
use Rattle.state_model.specs.State.{State, Job, without_job}
use Rattle.table_model.specs.Tables.{FilterBytes, Table}
use Rattle.state_model.specs.View.{state_map}
use Rattle.state_model.specs.Taken.{taken}
use Rattle.state_model.specs.Merges.{Plan, NoRoom, choose, planned, placed, least_key}
use Rattle.state_model.specs.Sound.{IsLeft, plan_of_job}
use Rattle.state_model.specs.Causes.{Why, NoMemory, ReadFailed, WriteFailed, DamageMet}
use Rattle.line_model.specs.Replies.{Reply, LastEpoch, Full, Memory, Device, Damaged}

-- ---- the job that a merge slice works on

-- the job of a plan, with nothing done
abbrev pub started : Plan → Job
started plan = record { inputs = plan.inputs; output = plan.output; to_read = sum_by (λ (t : Table). t.blocks) plan.inputs; written = [] }

-- the job that runs among some tables, or where none does a new one
abbrev pub IsRunning : List Table → Option Job → Job → Type 0
IsRunning tables running job = (running ≡ Some job) ⊎ ((plan : Plan) × (running ≡ None) × (choose tables ≡ Some plan) × (job ≡ started plan))

abbrev pub Runs : State → Job → Type 0
Runs s job = IsRunning s.tables s.job job

abbrev pub with_job : State → Job → State
with_job s job = record s { job = Some job }

-- the outputs that are not written yet
abbrev pub outstanding : List Table → Job → List Source
outstanding tables job = drop (length job.written) (planned tables (plan_of_job job))

-- the next few of them, by a given number, placed on a device of a given number of pages beside the extents that are taken
abbrev pub next_of : FilterBytes → Settings → ℕ → List Extent → List Table → Job → ℕ → Result (List Table) NoRoom
next_of filter_bytes settings pages taken tables job n = placed filter_bytes settings pages taken job.output (take n (outstanding tables job))

abbrev pub next_placed : FilterBytes → State → Job → ℕ → Result (List Table) NoRoom
next_placed filter_bytes s job n = next_of filter_bytes s.settings s.pages (taken (with_job s job)) s.tables job n

-- the job goes on: fewer blocks are to read, more outputs are written, or both, or neither
pub record Advances (filter_bytes : FilterBytes) (settings : Settings) (pages : ℕ) (taken : List Extent) (tables : List Table) (job later : Job) : Type 0 where
  pub inputs : later.inputs ≡ job.inputs
  pub output : later.output ≡ job.output
  pub to_read : later.to_read ≤ job.to_read
  pub more : ℕ
  pub made : List Table
  pub placed_so : next_of filter_bytes settings pages taken tables job more ≡ Ok made
  pub written : later.written ≡ job.written ++ made

abbrev pub Progresses : FilterBytes → State → Job → Job → Type 0
Progresses filter_bytes s job later = Advances filter_bytes s.settings s.pages (taken (with_job s job)) s.tables job later

-- nothing is to read, and all outputs are written
pub record IsDone (tables : List Table) (job : Job) : Type 0 where
  pub all_read : job.to_read ≡ 0
  pub all_written : outstanding tables job ≡ []

-- ---- its install

-- the first is of a lesser level, or of the same one with lesser keys
abbrev pub goes_before : Table → Table → Bool
goes_before t u = nat_lt t.level u.level || ((t.level == u.level) && is_before (least_key t) (least_key u))

abbrev pub inserted : List Table → Table → List Table
inserted [] new = new ∷ []
inserted (t ∷ more) new = if goes_before new t then new ∷ t ∷ more else t ∷ inserted more new

-- the tables without some of them: no two begin at one page
abbrev pub without : List Table → List Table → List Table
without inputs tables = filter (λ (t : Table). not (list_any (λ (i : Table). i.first_page == t.first_page) inputs)) tables

-- the outputs take the place of the inputs
abbrev pub installed_tables : List Table → Job → List Table
installed_tables tables job = fold inserted (without job.inputs tables) job.written

abbrev pub installed : State → Job → State
installed s job = record s { epoch = s.epoch + 1; tables = installed_tables s.tables job; job = None }

-- ---- the merge slice

-- Something may be written of a job: its next output, which has room, or where none is left its install, which has a next
-- epoch.
pub record MayWrite (filter_bytes : FilterBytes) (s : State) (job : Job) : Type 0 where
  pub room : IsOk (next_placed filter_bytes s job 1)
  pub epoch : outstanding s.tables job ≡ [] → s.epoch ≢ last_epoch

-- what it is answered; no line is said of it
pub data Tended : Type 0 where
  Idle : Tended
  Worked : Tended
  Refused : (why : Reply) → Tended

-- A merge slice is idle where no job runs and none is to be chosen. Else it works, or is refused and drops the job. It reads
-- while blocks are to read, and writes where it may; a job of which nothing is left it installs. `Cause` says what must be so for what the state does not explain.
pub data Tend (Cause : Why → Type 0) (filter_bytes : FilterBytes) (s : State) : Tended → State → Type 0 where
  idle : s.job ≡ None → choose s.tables ≡ None → Tend Cause filter_bytes s Idle s
  works : (job later : Job) → Runs s job → Progresses filter_bytes s job later → later ≢ job → (IsDone s.tables later → ⊥)
      → Tend Cause filter_bytes s Worked (with_job s later)
  installs : (job later : Job) → Runs s job → Progresses filter_bytes s job later → IsDone s.tables later → s.epoch ≢ last_epoch
      → Tend Cause filter_bytes s Worked (installed s later)
  last_epoch_reached : (job later : Job) → Runs s job → Progresses filter_bytes s job later → IsDone s.tables later → s.epoch ≡ last_epoch
      → Tend Cause filter_bytes s (Refused LastEpoch) (without_job s)
  no_room : (job later : Job) (refusal : NoRoom) → Runs s job → Progresses filter_bytes s job later → next_placed filter_bytes s later 1 ≡ Err refusal
      → Tend Cause filter_bytes s (Refused (Full refusal.need refusal.gap)) (without_job s)
  no_memory : Cause NoMemory → Tend Cause filter_bytes s (Refused Memory) (without_job s)
  read_failed : (job : Job) → Runs s job → 0 < job.to_read → Cause ReadFailed → Tend Cause filter_bytes s (Refused Device) (without_job s)
  damage_met : (job : Job) (damage : Damage) → Runs s job → 0 < job.to_read → Cause (DamageMet damage) → Tend Cause filter_bytes s (Refused (Damaged damage)) (without_job s)
  write_failed : (job : Job) (after : State) → Runs s job → MayWrite filter_bytes s job → Cause WriteFailed → IsLeft filter_bytes s after → state_map after ≡ state_map s
      → Tend Cause filter_bytes s (Refused Device) after
