-- A whole merge is one slice.
use Rattle.std.proofs.Common.{◌≡◌, inr, ℕ, List, [], ◌∷◌, ◌++◌, length, refl, sym, ap, ◌∙◌, subst, Bool, true, false, cond, arith, map}
use Rattle.std.specs.Prelude.{Option, Some, None, Result, Ok, Err, ◌==◌, take, drop}
use Rattle.std.proofs.lemmas.Bool.{eqb-true, eqb-false}
use Rattle.std.proofs.lemmas.List.{append-nil, map-append, take_all, length-map, drop_all}
use Rattle.key_base.specs.Limits.{last_epoch}
use Rattle.state_model.specs.State.{State, Job, without_job}
use Rattle.table_model.specs.Tables.{FilterBytes, Table, table_from, source_pages, as_source}
use Rattle.extent_model.specs.Extents.{Extent}
use Rattle.extent_model.specs.Gaps.{first_gap, largest_gap}
use Rattle.state_model.specs.Taken.{extent_of, taken}
use Rattle.state_model.specs.Merges.{NoRoom, Plan, choose, before, at_page, placed}
use Rattle.state_model.specs.Causes.{Why}
use Rattle.line_model.specs.Replies.{LastEpoch, Full}
use Rattle.state_model.specs.Tends.{started, Runs, with_job, outstanding, next_placed, Progresses, IsDone, installed, Tended, Idle, Worked, Refused, Tend, idle, installs, last_epoch_reached, no_room}
use Rattle.state_model.specs.Script.{Onward, turn_of_slice}
use Rattle.state_model.specs.Play.{job_of_plan, job_of, finished, installed_or_dropped, merged_by, merged}
use Rattle.state_model.proofs.Outputs.{placed_lists}
use Rattle.state_model.proofs.SameRoom.{Alike, in_front, in_front_or_within, no_gap_alike}
use Rattle.range_model.specs.Sources.{Source}

-- ---- the first output for which there is no room

-- the outputs before it are placed, and beside them there is no gap for it
pub record FirstRefused (filter_bytes : FilterBytes) (s : State) (taken : List Extent) (level : ℕ) (outputs : List Source) : Type 0 where
  made : List Table
  output : Source
  more : List Source
  fits : placed filter_bytes s.settings s.pages taken level (take (length made) outputs) ≡ Ok made
  left : drop (length made) outputs ≡ output ∷ more
  no_gap : first_gap s.pages (in_front made taken) (source_pages filter_bytes s.settings output) ≡ None

before_refused : (t : Table) (rest : Result (List Table) NoRoom) (refusal : NoRoom) → before t rest ≡ Err refusal → rest ≡ Err refusal
before_refused t (Ok tables) refusal e = absurd cc
before_refused t (Err other) refusal e = e

refused_at : (filter_bytes : FilterBytes) (s : State) (taken : List Extent) (level : ℕ) (output : Source) (more : List Source) (refusal : NoRoom)
    (page : Option ℕ) → first_gap s.pages taken (source_pages filter_bytes s.settings output) ≡ page
    → ((n : ℕ) → placed filter_bytes s.settings s.pages ((n, source_pages filter_bytes s.settings output) ∷ taken) level more ≡ Err refusal
    → FirstRefused filter_bytes s ((n, source_pages filter_bytes s.settings output) ∷ taken) level more)
    → at_page page (λ n. before (table_from filter_bytes s.settings level n output) (placed filter_bytes s.settings s.pages ((n, source_pages filter_bytes s.settings output) ∷ taken) level more))
    (record { need = source_pages filter_bytes s.settings output; gap = largest_gap s.pages taken }) ≡ Err refusal
    → FirstRefused filter_bytes s taken level (output ∷ more)
refused_at filter_bytes s taken level output more refusal None gap later e = record { made = []; output = output; more = more; fits = refl; left = refl; no_gap = gap }
refused_at filter_bytes s taken level output more refusal (Some n) gap later e =
    let need = source_pages filter_bytes s.settings output in
    let t = table_from filter_bytes s.settings level n output in
    let rest = later n (before_refused t (placed filter_bytes s.settings s.pages ((n, need) ∷ taken) level more) refusal e) in
    record {
      made = t ∷ rest.made;
      output = rest.output;
      more = rest.more;
      fits = ap (λ (page : Option ℕ). at_page page
          (λ n. before (table_from filter_bytes s.settings level n output) (placed filter_bytes s.settings s.pages ((n, need) ∷ taken) level (take (length rest.made) more)))
          (record { need = need; gap = largest_gap s.pages taken })) gap ∙ ap (before t) rest.fits;
      left = rest.left;
      no_gap = rest.no_gap;
    }

first_refused : (filter_bytes : FilterBytes) (s : State) (taken : List Extent) (level : ℕ) (outputs : List Source) (refusal : NoRoom)
    → placed filter_bytes s.settings s.pages taken level outputs ≡ Err refusal → FirstRefused filter_bytes s taken level outputs
first_refused filter_bytes s taken level [] refusal e = absurd cc
first_refused filter_bytes s taken level (output ∷ more) refusal e =
    let need = source_pages filter_bytes s.settings output in
    refused_at filter_bytes s taken level output more refusal (first_gap s.pages taken need) refl
    (λ n. first_refused filter_bytes s ((n, need) ∷ taken) level more refusal) e

-- ---- the slice

-- a slice leads here, and ends no script; no job runs after it
abbrev pub Slice : (Why → Type 0) → FilterBytes → State → State → Type 0
Slice Cause filter_bytes s after = ((t : Tended) × Tend Cause filter_bytes s t after × (Onward ≡ turn_of_slice t)) × (after.job ≡ None)

-- the job with some tables written
abbrev with_written : Job → List Table → Job
with_written job made = record job { written = job.written ++ made }

-- a job that has written nothing leaves what the tables and what is kept take
taken_before : (s : State) (job : Job) → job.written ≡ [] → taken (with_job s job) ≡ map extent_of s.tables ++ map extent_of s.kept
taken_before s job none = ap (λ (l : List Table). map extent_of (s.tables ++ l ++ s.kept)) none
    ∙ ap (λ (l : List Table). map extent_of (l ++ s.kept)) (append-nil s.tables) ∙ map-append extent_of s.tables s.kept

taken_behind : (s : State) (job : Job) (made : List Table) → job.written ≡ [] → taken (with_job s (with_written job made)) ≡ map extent_of s.tables ++ map extent_of made ++ map extent_of s.kept
taken_behind s job made none = ap (λ (l : List Table). map extent_of (s.tables ++ (l ++ made) ++ s.kept)) none
    ∙ map-append extent_of (s.tables ++ made) s.kept
    ∙ ap (λ (l : List Extent). l ++ map extent_of s.kept) (map-append extent_of s.tables made)

-- where one output finds no gap, the slice is refused and the job dropped
dropped_slice : (Cause : Why → Type 0) (filter_bytes : FilterBytes) (s : State) (plan : Plan) → Runs s (started plan)
    → FirstRefused filter_bytes s (taken (with_job s (started plan))) plan.output (outstanding s.tables (started plan)) → Slice Cause filter_bytes s (without_job s)
dropped_slice Cause filter_bytes s plan runs first =
    let job = started plan in
    let later = with_written job first.made in
    let need = source_pages filter_bytes s.settings first.output in
    let refusal : NoRoom = record { need = need; gap = largest_gap s.pages (taken (with_job s later)) } in
    let alike = subst (λ (l : List Extent). Alike (in_front first.made l) (taken (with_job s later))) (sym (taken_before s job refl))
    (subst (Alike (in_front first.made (map extent_of s.tables ++ map extent_of s.kept))) (sym (taken_behind s job first.made refl))
    (in_front_or_within first.made (map extent_of s.tables) (map extent_of s.kept))) in
    let none = no_gap_alike s.pages need (in_front first.made (taken (with_job s job))) (taken (with_job s later)) alike first.no_gap in
    let refused = ap (λ (l : List Source). placed filter_bytes s.settings s.pages (taken (with_job s later)) job.output (take 1 l)) first.left
    ∙ ap (λ (page : Option ℕ). at_page page
    (λ n. before (table_from filter_bytes s.settings job.output n first.output) (Ok [])) refusal) none in
    let goes_on : Progresses filter_bytes s job later = record { inputs = refl; output = refl; to_read = omega arith; more = length first.made; made = first.made; placed_so = first.fits; written = refl } in
    ((Refused (Full refusal.need refusal.gap), no_room job later refusal runs goes_on refused, refl), refl)

-- where all outputs are placed, they are installed, or refused at the last epoch
finished_slice : (Cause : Why → Type 0) (filter_bytes : FilterBytes) (s : State) (plan : Plan) (made : List Table) → Runs s (started plan)
    → next_placed filter_bytes s (started plan) (length (outstanding s.tables (started plan))) ≡ Ok made
    → (is_last : Bool) → (s.epoch == last_epoch) ≡ is_last
    → Slice Cause filter_bytes s (cond is_last (without_job s) (installed s (finished (started plan) made)))
finished_slice Cause filter_bytes s plan made runs e is_last at_last =
    let job = started plan in
    let later = finished job made in
    let outputs = outstanding s.tables job in
    let lists = placed_lists filter_bytes s (taken (with_job s job)) job.output (take (length outputs) outputs) made e ∙ take_all (length outputs) outputs (omega arith) in
    let many = sym (length-map made as_source) ∙ ap (λ (l : List Source). length l) lists in
    let all_written : outstanding s.tables later ≡ [] = drop_all (length made) outputs (omega arith) in
    let goes_on : Progresses filter_bytes s job later = record { inputs = refl; output = refl; to_read = omega arith; more = length outputs; made = made; placed_so = e; written = refl } in
    let done : IsDone s.tables later = record { all_read = refl; all_written = all_written } in
    elim is_last as (λ t. (s.epoch == last_epoch) ≡ t → Slice Cause filter_bytes s (cond t (without_job s) (installed s later))) [
      | true ↦ λ at_last. ((Refused LastEpoch, last_epoch_reached job later runs goes_on done (eqb-true s.epoch last_epoch at_last), refl), refl)
      | false ↦ λ at_last. ((Worked, installs job later runs goes_on done (eqb-false s.epoch last_epoch at_last), refl), refl)
    ] at_last

worked_slice : (Cause : Why → Type 0) (filter_bytes : FilterBytes) (s : State) (plan : Plan) (done : Result (List Table) NoRoom) → Runs s (started plan)
    → next_placed filter_bytes s (started plan) (length (outstanding s.tables (started plan))) ≡ done → Slice Cause filter_bytes s (installed_or_dropped s (started plan) done)
worked_slice Cause filter_bytes s plan (Ok made) runs e = finished_slice Cause filter_bytes s plan made runs e (s.epoch == last_epoch) refl
worked_slice Cause filter_bytes s plan (Err refusal) runs e =
    let job = started plan in
    let outputs = outstanding s.tables job in
    let refused = sym (ap (placed filter_bytes s.settings s.pages (taken (with_job s job)) job.output) (take_all (length outputs) outputs (omega arith))) ∙ e in
    dropped_slice Cause filter_bytes s plan runs (first_refused filter_bytes s (taken (with_job s job)) job.output outputs refusal refused)

slice_of_plan : (Cause : Why → Type 0) (filter_bytes : FilterBytes) (s : State) (plan : Option Plan) → s.job ≡ None → choose s.tables ≡ plan
    → Slice Cause filter_bytes s (merged_by filter_bytes s (job_of_plan plan))
slice_of_plan Cause filter_bytes s None none chosen = ((Idle, idle none chosen, refl), none)
slice_of_plan Cause filter_bytes s (Some plan) none chosen =
    worked_slice Cause filter_bytes s plan (next_placed filter_bytes s (started plan) (length (outstanding s.tables (started plan)))) (inr (plan, none, chosen, refl)) refl

-- the whole merge of a state without a job is one slice
pub merged_is_a_slice : (Cause : Why → Type 0) (filter_bytes : FilterBytes) (s : State) → s.job ≡ None → Slice Cause filter_bytes s (merged filter_bytes s)
merged_is_a_slice Cause filter_bytes s none =
    subst (λ (job : Option Job). Slice Cause filter_bytes s (merged_by filter_bytes s (job_of job (choose s.tables)))) (sym none) (slice_of_plan Cause filter_bytes s (choose s.tables) none refl)
