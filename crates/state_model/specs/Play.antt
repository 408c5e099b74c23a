-- Runs of the script that compute: memory lasts, the device holds, and each merge is done whole in its first merge slice, or
-- in merge slices of a given number of blocks.
use Rattle.std.specs.Prelude.{ℕ, ◌-◌, ◌==◌, nat_lt, if◌then◌else◌, List, [], ◌∷◌, ◌++◌, length, Option, Some, None, Result, Ok, Err}
use Rattle.range_model.specs.Sources.{Source}
use Rattle.key_base.specs.Limits.{last_epoch}
use Rattle.state_model.specs.State.{State, Job, without_job}
use Rattle.table_model.specs.Tables.{FilterBytes, Table}
use Rattle.state_model.specs.Merges.{NoRoom, Plan, choose}
use Rattle.state_model.specs.Tends.{started, with_job, outstanding, next_placed, installed}
use Rattle.state_model.specs.Steps.{answer}
use Rattle.line_model.specs.Requests.{Request, Put, Del}
use Rattle.line_model.specs.Replies.{Reply, Bye}

-- the job that runs, or a new one
abbrev pub job_of_plan : Option Plan → Option Job
job_of_plan None = None
job_of_plan (Some plan) = Some (started plan)

abbrev pub job_of : Option Job → Option Plan → Option Job
job_of (Some job) plan = Some job
job_of None plan = job_of_plan plan

-- the job with all its outputs
abbrev pub finished : Job → List Table → Job
finished job made = record job { to_read = 0; written = job.written ++ made }

-- it is installed, or dropped where there is no room or no epoch
abbrev pub installed_or_dropped : State → Job → Result (List Table) NoRoom → State
installed_or_dropped s job (Ok made) = if s.epoch == last_epoch then without_job s else installed s (finished job made)
installed_or_dropped s job (Err refusal) = without_job s

abbrev pub merged_by : FilterBytes → State → Option Job → State
merged_by filter_bytes s None = s
merged_by filter_bytes s (Some job) = installed_or_dropped s job (next_placed filter_bytes s job (length (outstanding s.tables job)))

-- the state after a whole merge, where one runs or is to be chosen
abbrev pub merged : FilterBytes → State → State
merged filter_bytes s = merged_by filter_bytes s (job_of s.job (choose s.tables))

-- ---- a merge in merge slices

-- the job goes on; where nothing is left of it, it is installed, or dropped at the last epoch
abbrev pub went_on_by : State → Job → List Source → State
went_on_by s job [] = if s.epoch == last_epoch then without_job s else installed s job
went_on_by s job (output ∷ more) = with_job s job

abbrev pub went_on : State → Job → State
went_on s job = if nat_lt 0 job.to_read then with_job s job else went_on_by s job (outstanding s.tables job)

-- an output is written as it was placed, or the job is dropped where it has no room
abbrev pub output_written : State → Job → Result (List Table) NoRoom → State
output_written s job (Ok made) = went_on s (finished job made)
output_written s job (Err refusal) = without_job s

-- the first of these outputs is written; where none is left the job is installed, or dropped at the last epoch
abbrev pub with_next : FilterBytes → State → Job → List Source → State
with_next filter_bytes s job [] = if s.epoch == last_epoch then without_job s else installed s job
with_next filter_bytes s job outputs = output_written s job (next_placed filter_bytes s job 1)

-- a given number of blocks more are read, or where none is left comes the next output
abbrev pub sliced_by : FilterBytes → ℕ → State → Option Job → State
sliced_by filter_bytes blocks s None = s
sliced_by filter_bytes blocks s (Some job) =
    if nat_lt 0 job.to_read then went_on s (record job { to_read = job.to_read - blocks })
    else with_next filter_bytes s job (outstanding s.tables job)

-- the state after one merge slice of a given number of blocks, where a job runs or is to be chosen
abbrev pub sliced : FilterBytes → ℕ → State → State
sliced filter_bytes blocks s = sliced_by filter_bytes blocks s (job_of s.job (choose s.tables))

-- ---- lines

-- a whole merge, or a merge slice, after each put and del
abbrev pub tended_by : (State → State) → Request → State → State
tended_by merge (Put key value) s = merge s
tended_by merge (Del key) s = merge s
tended_by merge request s = s

abbrev pub tended : FilterBytes → Request → State → State
tended filter_bytes request s = tended_by (merged filter_bytes) request s

-- a reply, and those to the lines after it; none where it is the last
abbrev pub reply_then : Reply → List Reply × State → State → List Reply × State
reply_then Bye later s = (Bye ∷ [], s)
reply_then reply later s = (reply ∷ later.0, later.1)

-- the replies to some requests, and the state that they leave
abbrev pub played_by : FilterBytes → (State → State) → State → List Request → List Reply × State
played_by filter_bytes merge s [] = ([], s)
played_by filter_bytes merge s (request ∷ more) =
    let a = answer filter_bytes s request in
    reply_then a.0 (played_by filter_bytes merge (tended_by merge request a.1) more) a.1

-- with a whole merge after each put and del, or with one merge slice of a given number of blocks
abbrev pub played : FilterBytes → State → List Request → List Reply × State
played filter_bytes s requests = played_by filter_bytes (merged filter_bytes) s requests

abbrev pub played_in_slices : FilterBytes → ℕ → State → List Request → List Reply × State
played_in_slices filter_bytes blocks s requests = played_by filter_bytes (sliced filter_bytes blocks) s requests
