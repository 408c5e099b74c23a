-- Laws that tie each reply to its cause: what is answered where one cause alone is met. A limit comes before all of them.
-- And what a reply says of its cause where several may be met, of a line and of a merge slice.
use Rattle.std.specs.Prelude.{◌≡◌, ◌≢◌, ◌⊎◌, ◌<◌, ℕ, Bool, Some, None, Err}
use Rattle.byte_fields.specs.declared.parts.Damage.{Damage}
use Rattle.key_base.specs.Limits.{last_epoch}
use Rattle.map_model.specs.SortedMap.{Map}
use Rattle.line_model.specs.Limits.{limit_of}
use Rattle.line_model.specs.Requests.{Request, Range}
use Rattle.line_model.specs.Replies.{Reply, Pairs, Full, LastEpoch, Memory, Device, Damaged}
use Rattle.table_model.specs.Tables.{FilterBytes}
use Rattle.state_model.specs.State.{State, Job}
use Rattle.state_model.specs.View.{state_map}
use Rattle.state_model.specs.Causes.{Why, NoMemory, ReadFailed, WriteFailed, DamageMet}
use Rattle.state_model.specs.Merges.{choose}
use Rattle.state_model.specs.Sound.{IsLeft}
use Rattle.state_model.specs.Steps.{Step, TakesMemory, Reads, Writes}
use Rattle.state_model.specs.Tends.{Tend, Tended, Idle, Worked, Refused, Runs, Progresses, IsDone, MayWrite, next_placed, with_job, installed}
use Rattle.state_model.specs.PlayLaws.{Never, Allowed}
use Rattle.state_model.specs.SoundLaws.{Ever}
use Rattle.state_model.specs.FaultLaws.{Only, IsAnswered, IsSaidOf, IsUnchanged, HasEitherMap}

-- the fault alone; a range may have said some first pairs of its answer before
abbrev pub SaysFault : State → Request → Reply → Reply → Type 0
SaysFault s (Range lo hi n) why reply = (reply ≡ why) ⊎ ((said : Map) × (reply ≡ Pairs said why) × IsSaidOf s lo hi n said)
SaysFault s request why reply = reply ≡ why

-- the line has its answer, or says this fault and changes nothing
abbrev pub AnsweredOr : FilterBytes → State → Request → Reply → Reply → State → Type 0
AnsweredOr filter_bytes s request why reply after =
    IsAnswered filter_bytes s request reply after ⊎ (SaysFault s request why reply × IsUnchanged request s after)

-- Where memory alone may be wanting, a line has its answer or is told `memory`; where reads alone may fail, `device`; where
-- one damage alone may be met, that damage. What breaks a limit is told so, whatever may be met.
pub record CausesHaveReplies : Type 0 where
  pub memory :
      (filter_bytes : FilterBytes) (s after : State) (request : Request) (reply : Reply) → Step (Only NoMemory) filter_bytes s request reply after
      → IsAnswered filter_bytes s request reply after ⊎ ((reply ≡ Memory) × IsUnchanged request s after)
  pub read :
      (filter_bytes : FilterBytes) (s after : State) (request : Request) (reply : Reply) → Step (Only ReadFailed) filter_bytes s request reply after
      → AnsweredOr filter_bytes s request Device reply after
  pub damage :
      (filter_bytes : FilterBytes) (s after : State) (request : Request) (reply : Reply) (damage : Damage)
      → Step (Only (DamageMet damage)) filter_bytes s request reply after → AnsweredOr filter_bytes s request (Damaged damage) reply after
  pub limit :
      (filter_bytes : FilterBytes) (s after : State) (request : Request) (reply why : Reply) → limit_of request ≡ Some why
      → Step Ever filter_bytes s request reply after → (reply ≡ why) × (after ≡ s)

-- the merge slice meets nothing, or is refused for this and drops its job
abbrev pub TendedOr : FilterBytes → State → Reply → Tended → State → Type 0
TendedOr filter_bytes s why tended after = Tend Never filter_bytes s tended after ⊎ ((tended ≡ Refused why) × (after ≡ record s { job = None }))

-- The same of a merge slice, which is an ordinary one or is told of its cause. After a failed write the map is the same. What
-- is refused for room needs more than the gap that is named.
pub record SlicesHaveReplies : Type 0 where
  pub memory :
      (filter_bytes : FilterBytes) (s after : State) (tended : Tended) → Tend (Only NoMemory) filter_bytes s tended after
      → TendedOr filter_bytes s Memory tended after
  pub read :
      (filter_bytes : FilterBytes) (s after : State) (tended : Tended) → Tend (Only ReadFailed) filter_bytes s tended after
      → TendedOr filter_bytes s Device tended after
  pub damage :
      (filter_bytes : FilterBytes) (s after : State) (tended : Tended) (damage : Damage) → Tend (Only (DamageMet damage)) filter_bytes s tended after
      → TendedOr filter_bytes s (Damaged damage) tended after
  pub write :
      (filter_bytes : FilterBytes) (s after : State) (tended : Tended) → Tend (Only WriteFailed) filter_bytes s tended after
      → Tend Never filter_bytes s tended after ⊎ ((tended ≡ Refused Device) × IsLeft filter_bytes s after × (state_map after ≡ state_map s))
  pub room :
      (filter_bytes : FilterBytes) (s after : State) (need gap : ℕ) → Tend Ever filter_bytes s (Refused (Full need gap)) after
      → gap < need

-- ---- where any of some causes may be met

-- What a reply says: lack of memory, a failed read, a failed write or damage is told where it is allowed, and the request
-- takes memory, reads or writes; a line that tells of none of these has its answer.
abbrev pub IsTold : (Why → Bool) → FilterBytes → State → Request → Reply → State → Type 0
IsTold causes filter_bytes s request Memory after = Allowed causes NoMemory × TakesMemory s request × IsUnchanged request s after
IsTold causes filter_bytes s request Device after =
    (Allowed causes ReadFailed × Reads s request × IsUnchanged request s after)
    ⊎ (Allowed causes WriteFailed × Writes filter_bytes s request × IsLeft filter_bytes s after × HasEitherMap filter_bytes s request after)
IsTold causes filter_bytes s request (Damaged damage) after = Allowed causes (DamageMet damage) × Reads s request × IsUnchanged request s after
IsTold causes filter_bytes s request (Pairs said Device) after =
    Allowed causes ReadFailed × Reads s request × SaysFault s request Device (Pairs said Device) × IsUnchanged request s after
IsTold causes filter_bytes s request (Pairs said (Damaged damage)) after =
    Allowed causes (DamageMet damage) × Reads s request × SaysFault s request (Damaged damage) (Pairs said (Damaged damage)) × IsUnchanged request s after
IsTold causes filter_bytes s request reply after = IsAnswered filter_bytes s request reply after

abbrev pub RepliesHaveCauses : Type 0
RepliesHaveCauses =
    (causes : Why → Bool) (filter_bytes : FilterBytes) (s after : State) (request : Request) (reply : Reply)
    → Step (Allowed causes) filter_bytes s request reply after → IsTold causes filter_bytes s request reply after

-- The same of a merge slice that is refused: it is told of a cause that is allowed, where blocks are to read or something
-- may be written, or of the last epoch or of room; and by no other reply.
abbrev pub IsRefused : (Why → Bool) → FilterBytes → State → Reply → State → Type 0
IsRefused causes filter_bytes s Memory after = Allowed causes NoMemory × (after ≡ record s { job = None })
IsRefused causes filter_bytes s Device after =
    (job : Job) × Runs s job
    × ((Allowed causes ReadFailed × (0 < job.to_read) × (after ≡ record s { job = None }))
    ⊎ (Allowed causes WriteFailed × MayWrite filter_bytes s job × IsLeft filter_bytes s after × (state_map after ≡ state_map s)))
IsRefused causes filter_bytes s (Damaged damage) after =
    (job : Job) × Runs s job × Allowed causes (DamageMet damage) × (0 < job.to_read) × (after ≡ record s { job = None })
IsRefused causes filter_bytes s LastEpoch after = after ≡ record s { job = None }
IsRefused causes filter_bytes s (Full need gap) after = after ≡ record s { job = None }
IsRefused causes filter_bytes s why after = ⊥

abbrev pub RefusalsHaveCauses : Type 0
RefusalsHaveCauses =
    (causes : Why → Bool) (filter_bytes : FilterBytes) (s after : State) (why : Reply)
    → Tend (Allowed causes) filter_bytes s (Refused why) after → IsRefused causes filter_bytes s why after

-- ---- what the state says of a merge slice

-- a job that runs has come so far
abbrev pub HasComeTo : FilterBytes → State → Job → Type 0
HasComeTo filter_bytes s later = (job : Job) × Runs s job × Progresses filter_bytes s job later

-- An idle merge slice has no job and none to choose, and changes nothing. One that worked has a job that went on, or that is
-- done and installed before the last epoch. One that is refused at the last epoch has a job that is done; one that is
-- refused for room has a job whose next output takes more than the largest gap, as it is told.
pub record SlicesHaveReasons : Type 0 where
  pub idle :
      (filter_bytes : FilterBytes) (s after : State) → Tend Ever filter_bytes s Idle after
      → (s.job ≡ None) × (choose s.tables ≡ None) × (after ≡ s)
  pub worked :
      (filter_bytes : FilterBytes) (s after : State) → Tend Ever filter_bytes s Worked after → (later : Job) × HasComeTo filter_bytes s later
      × ((after ≡ with_job s later) ⊎ (IsDone s.tables later × (s.epoch ≢ last_epoch) × (after ≡ installed s later)))
  pub epoch :
      (filter_bytes : FilterBytes) (s after : State) → Tend Ever filter_bytes s (Refused LastEpoch) after
      → (later : Job) × HasComeTo filter_bytes s later × IsDone s.tables later × (s.epoch ≡ last_epoch)
  pub no_room :
      (filter_bytes : FilterBytes) (s after : State) (need gap : ℕ) → Tend Ever filter_bytes s (Refused (Full need gap)) after
      → (later : Job) × HasComeTo filter_bytes s later × (next_placed filter_bytes s later 1 ≡ Err (record { need = need; gap = gap }))
