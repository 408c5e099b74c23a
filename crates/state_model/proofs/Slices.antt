-- What is computed of a merge slice of some blocks is one.
use Rattle.std.proofs.Common.{◌≡◌, ◌≢◌, inl, inr, ℕ, ◌≤◌, List, [], ◌∷◌, ◌++◌, length, refl, sym, ap, ◌∙◌, true, false, cond, arith}
use Rattle.std.specs.Prelude.{Option, Some, None, Result, Ok, Err, nat_lt, ◌==◌, ◌-◌, take}
use Rattle.std.proofs.lemmas.Bool.{eqb-true, eqb-false}
use Rattle.std.proofs.lemmas.List.{append-nil, length-append, length-map}
use Rattle.key_base.specs.Limits.{last_epoch}
use Rattle.state_model.specs.State.{State, Job, without_job}
use Rattle.table_model.specs.Tables.{FilterBytes, Table, as_source}
use Rattle.state_model.specs.Taken.{taken}
use Rattle.state_model.specs.Merges.{NoRoom, Plan, choose}
use Rattle.line_model.specs.Replies.{LastEpoch, Full}
use Rattle.state_model.specs.Tends.{started, Runs, with_job, outstanding, next_placed, Progresses, IsDone, installed, Tended, Idle, Worked, Refused, Tend, idle, works, installs, last_epoch_reached, no_room}
use Rattle.state_model.specs.Script.{Onward, turn_of_slice}
use Rattle.state_model.specs.Play.{job_of, finished, output_written, went_on, went_on_by, with_next, sliced_by, sliced}
use Rattle.state_model.specs.PlayLaws.{Never}
use Rattle.state_model.proofs.Outputs.{placed_lists}
use Rattle.range_model.specs.Sources.{Source}

abbrev Slice : FilterBytes → State → State → Type 0
Slice filter_bytes s after = (t : Tended) × Tend Never filter_bytes s t after × (Onward ≡ turn_of_slice t)

-- a job goes on to itself, and to one with fewer blocks to read
goes_to : (filter_bytes : FilterBytes) (s : State) (job : Job) (to_read : ℕ) → to_read ≤ job.to_read → Progresses filter_bytes s job (record job { to_read = to_read })
goes_to filter_bytes s job to_read less = record { inputs = refl; output = refl; to_read = less; more = 0; made = []; placed_so = refl; written = sym (append-nil job.written) }

fewer : (n blocks : ℕ) → nat_lt 0 n ≡ true → 1 ≤ blocks → n - blocks ≡ n → ⊥
fewer n blocks some more same = grind arith

none_left : (n : ℕ) → nat_lt 0 n ≡ false → n ≡ 0
none_left n e = grind arith

install_slice : (filter_bytes : FilterBytes) (s : State) (job later : Job) → Runs s job → Progresses filter_bytes s job later → IsDone s.tables later
    → Slice filter_bytes s (cond (s.epoch == last_epoch) (without_job s) (installed s later))
install_slice filter_bytes s job later runs goes done =
    elim (s.epoch == last_epoch) as (λ b. (s.epoch == last_epoch) ≡ b → Slice filter_bytes s (cond b (without_job s) (installed s later))) [
      | true ↦ λ e. (Refused LastEpoch, last_epoch_reached job later runs goes done (eqb-true s.epoch last_epoch e), refl)
      | false ↦ λ e. (Worked, installs job later runs goes done (eqb-false s.epoch last_epoch e), refl)
    ] refl

-- a job that goes on to another one, of which something is left or nothing
left_slice : (filter_bytes : FilterBytes) (s : State) (job later : Job) (left : List Source) → Runs s job → Progresses filter_bytes s job later → later ≢ job → later.to_read ≡ 0
    → outstanding s.tables later ≡ left → Slice filter_bytes s (went_on_by s later left)
left_slice filter_bytes s job later [] runs goes other read none = install_slice filter_bytes s job later runs goes (record { all_read = read; all_written = none })
left_slice filter_bytes s job later (output ∷ more) runs goes other read left =
    (Worked, works job later runs goes other (λ done. let none : output ∷ more ≡ [] = sym left ∙ done.all_written in absurd cc), refl)

on_slice : (filter_bytes : FilterBytes) (s : State) (job later : Job) → Runs s job → Progresses filter_bytes s job later → later ≢ job → Slice filter_bytes s (went_on s later)
on_slice filter_bytes s job later runs goes other =
    elim (nat_lt 0 later.to_read) as (λ b. nat_lt 0 later.to_read ≡ b → Slice filter_bytes s (cond b (with_job s later) (went_on_by s later (outstanding s.tables later)))) [
      | true ↦ λ e. (Worked, works job later runs goes other (λ done. some_read later.to_read e done.all_read), refl)
      | false ↦ λ e. left_slice filter_bytes s job later (outstanding s.tables later) runs goes other (none_left later.to_read e) refl
    ] refl
  where
    some_read : (n : ℕ) → nat_lt 0 n ≡ true → n ≡ 0 → ⊥
    some_read n some none = grind arith

read_slice : (filter_bytes : FilterBytes) (blocks : ℕ) (s : State) (job : Job) → Runs s job → 1 ≤ blocks → nat_lt 0 job.to_read ≡ true
    → Slice filter_bytes s (went_on s (record job { to_read = job.to_read - blocks }))
read_slice filter_bytes blocks s job runs some left =
    let later : Job = record job { to_read = job.to_read - blocks } in
    on_slice filter_bytes s job later runs (goes_to filter_bytes s job (job.to_read - blocks) (omega arith)) (λ same. fewer job.to_read blocks left some (ap (λ (j : Job). j.to_read) same))

longer : (written made : List Table) → length made ≡ 1 → written ++ made ≡ written → ⊥
longer written made one same = let e = ap (λ (l : List Table). length l) same in absurd (omega (arith, length-append written made, one, e))

output_slice : (filter_bytes : FilterBytes) (s : State) (job : Job) (output : Source) (more : List Source) (done : Result (List Table) NoRoom) → Runs s job
    → outstanding s.tables job ≡ output ∷ more → next_placed filter_bytes s job 1 ≡ done → Slice filter_bytes s (output_written s job done)
output_slice filter_bytes s job output more (Ok made) runs left e =
    let later = finished job made in
    let lists = placed_lists filter_bytes s (taken (with_job s job)) job.output (take 1 (outstanding s.tables job)) made e ∙ ap (take 1) left in
    let one : length made ≡ 1 = sym (length-map made as_source) ∙ ap (λ (l : List Source). length l) lists in
    let goes : Progresses filter_bytes s job later = record { inputs = refl; output = refl; to_read = omega arith; more = 1; made = made; placed_so = e; written = refl } in
    on_slice filter_bytes s job later runs goes (λ same. longer job.written made one (ap (λ (j : Job). j.written) same))
output_slice filter_bytes s job output more (Err refusal) runs left e =
    (Refused (Full refusal.need refusal.gap), no_room job job refusal runs (goes_to filter_bytes s job job.to_read (omega arith)) e, refl)

next_slice : (filter_bytes : FilterBytes) (s : State) (job : Job) (outputs : List Source) → Runs s job → job.to_read ≡ 0 → outstanding s.tables job ≡ outputs
    → Slice filter_bytes s (with_next filter_bytes s job outputs)
next_slice filter_bytes s job [] runs read left =
    install_slice filter_bytes s job job runs (goes_to filter_bytes s job job.to_read (omega arith)) (record { all_read = read; all_written = left })
next_slice filter_bytes s job (output ∷ more) runs read left = output_slice filter_bytes s job output more (next_placed filter_bytes s job 1) runs left refl

job_slice : (filter_bytes : FilterBytes) (blocks : ℕ) (s : State) (job : Job) → Runs s job → 1 ≤ blocks → Slice filter_bytes s (sliced_by filter_bytes blocks s (Some job))
job_slice filter_bytes blocks s job runs some =
    elim (nat_lt 0 job.to_read) as (λ b. nat_lt 0 job.to_read ≡ b
    → Slice filter_bytes s (cond b (went_on s (record job { to_read = job.to_read - blocks })) (with_next filter_bytes s job (outstanding s.tables job)))) [
      | true ↦ λ e. read_slice filter_bytes blocks s job runs some e
      | false ↦ λ e. next_slice filter_bytes s job (outstanding s.tables job) runs (none_left job.to_read e) refl
    ] refl

plan_slice : (filter_bytes : FilterBytes) (blocks : ℕ) (s : State) (running : Option Job) (plan : Option Plan) → s.job ≡ running → choose s.tables ≡ plan → 1 ≤ blocks
    → Slice filter_bytes s (sliced_by filter_bytes blocks s (job_of running plan))
plan_slice filter_bytes blocks s (Some job) plan runs chosen some = job_slice filter_bytes blocks s job (inl runs) some
plan_slice filter_bytes blocks s None None none chosen some = (Idle, idle none chosen, refl)
plan_slice filter_bytes blocks s None (Some plan) none chosen some = job_slice filter_bytes blocks s (started plan) (inr (plan, none, chosen, refl)) some

pub sliced_is_allowed : (filter_bytes : FilterBytes) (blocks : ℕ) (s : State) → 1 ≤ blocks → Slice filter_bytes s (sliced filter_bytes blocks s)
sliced_is_allowed filter_bytes blocks s some = plan_slice filter_bytes blocks s s.job (choose s.tables) refl refl some
