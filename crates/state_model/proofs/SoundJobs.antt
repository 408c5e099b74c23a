-- A job that goes on, and one that is dropped, leave a sound state.
use Rattle.std.proofs.Common.{◌≡◌, inl, inr, ℕ, zero, suc, ◌≤◌, List, [], ◌∷◌, ◌++◌, length, refl, sym, ap, subst, arith}
use Rattle.std.specs.Prelude.{Option, Some, None, Ok, take, drop}
use Rattle.std.proofs.lemmas.List.{append_assoc}
use Rattle.filter_api.specs.declared.settings.Settings.{Settings}
use Rattle.state_model.specs.State.{State, Job, without_job, written_by}
use Rattle.table_model.specs.Tables.{FilterBytes, Table}
use Rattle.state_model.specs.Taken.{taken}
use Rattle.state_model.specs.Merges.{Plan, placed, planned, choose}
use Rattle.state_model.specs.Tends.{Runs, Progresses, started, with_job, outstanding}
use Rattle.extent_model.specs.Extents.{AreApart}
use Rattle.state_model.specs.Sound.{IsSound, AreMade, IsJob, plan_of_job}
use Rattle.extent_model.proofs.Lists.{pairs_of, all_pairs}
use Rattle.state_model.proofs.Merged.{merge_some}
use Rattle.state_model.proofs.Orders.{all_in, pairs_in, all_out_of, pairs_out_of, all_take, all_drop}
use Rattle.state_model.proofs.Places.{Stand, OnDevice, Clear, clear_mutual, stand_of, laid_tables, placed_stand}
use Rattle.range_model.specs.Sources.{Source}

-- what is taken in a sound state
abbrev pub taken_tables : State → List Table
taken_tables s = s.tables ++ written_by s.job ++ s.kept

pub sound_stand : (filter_bytes : FilterBytes) (s : State) → IsSound filter_bytes s → Stand s.pages (taken_tables s)
sound_stand filter_bytes s sound = stand_of s.pages (taken_tables s) (sound.on_device, pairs_of AreApart (taken s) sound.apart)

-- ---- without the job

pub drop_sound : (filter_bytes : FilterBytes) (s : State) → IsSound filter_bytes s → IsSound filter_bytes (without_job s)
drop_sound filter_bytes s sound =
    let stand = sound_stand filter_bytes s sound in
    let left : Stand s.pages (taken_tables (without_job s)) = (all_out_of (OnDevice s.pages) s.tables (written_by s.job) s.kept stand.0, pairs_out_of Clear s.tables (written_by s.job) s.kept stand.1) in
    let laid = laid_tables s.pages (taken_tables (without_job s)) left in
    record {
      settings = sound.settings;
      ratio = sound.ratio;
      device = sound.device;
      epoch = sound.epoch;
      log = sound.log;
      log_fits = sound.log_fits;
      few = sound.few;
      tables = sound.tables;
      order = sound.order;
      on_device = laid.0;
      apart = all_pairs AreApart (taken (without_job s)) laid.1;
      job = tt;
    }

-- ---- a job

-- a sound state with another job
pub job_sound : (filter_bytes : FilterBytes) (s : State) (job : Job) → IsSound filter_bytes s → Stand s.pages (taken_tables (with_job s job)) → IsJob filter_bytes s.settings s.tables job → IsSound filter_bytes (with_job s job)
job_sound filter_bytes s job sound stand is =
    let laid = laid_tables s.pages (taken_tables (with_job s job)) stand in
    record {
      settings = sound.settings;
      ratio = sound.ratio;
      device = sound.device;
      epoch = sound.epoch;
      log = sound.log;
      log_fits = sound.log_fits;
      few = sound.few;
      tables = sound.tables;
      order = sound.order;
      on_device = laid.0;
      apart = all_pairs AreApart (taken (with_job s job)) laid.1;
      job = is;
    }

none_made : (filter_bytes : FilterBytes) (settings : Settings) (level : ℕ) (outputs : List Source) → AreMade filter_bytes settings level outputs []
none_made filter_bytes settings level [] = tt
none_made filter_bytes settings level (output ∷ more) = tt

started_sound : (filter_bytes : FilterBytes) (s : State) (plan : Plan) → IsSound filter_bytes s → s.job ≡ None → choose s.tables ≡ Some plan → IsSound filter_bytes (with_job s (started plan))
started_sound filter_bytes s plan sound none chosen = job_sound filter_bytes s (started plan) sound
    (subst (λ (o : Option Job). Stand s.pages (s.tables ++ written_by o ++ s.kept)) none (sound_stand filter_bytes s sound))
    (record { flushes = 0; few = omega arith; chosen = chosen; to_read = omega arith; written = none_made filter_bytes s.settings plan.output (planned s.tables plan) })

pub runs_sound : (filter_bytes : FilterBytes) (s : State) (job : Job) → IsSound filter_bytes s → Runs s job → IsSound filter_bytes (with_job s job)
runs_sound filter_bytes s job sound (inl same) = subst (IsSound filter_bytes) (ap (λ (o : Option Job). record s { job = o }) same) sound
runs_sound filter_bytes s job sound (inr (plan, none, chosen, same)) = subst (λ (j : Job). IsSound filter_bytes (with_job s j)) (sym same) (started_sound filter_bytes s plan sound none chosen)

-- ---- the job goes on

made_first : (filter_bytes : FilterBytes) (settings : Settings) (level n : ℕ) (outputs : List Source) (made : List Table) → AreMade filter_bytes settings level (take n outputs) made → AreMade filter_bytes settings level outputs made
made_first filter_bytes settings level n outputs [] are = none_made filter_bytes settings level outputs
made_first filter_bytes settings level zero outputs (t ∷ more) are = absurd are
made_first filter_bytes settings level (suc n) [] (t ∷ more) are = absurd are
made_first filter_bytes settings level (suc n) (output ∷ outputs) (t ∷ more) are = (are.0, made_first filter_bytes settings level n outputs more are.1)

made_join : (filter_bytes : FilterBytes) (settings : Settings) (level : ℕ) (outputs : List Source) (first later : List Table)
    → AreMade filter_bytes settings level outputs first → AreMade filter_bytes settings level (drop (length first) outputs) later → AreMade filter_bytes settings level outputs (first ++ later)
made_join filter_bytes settings level outputs [] later are then = then
made_join filter_bytes settings level [] (t ∷ more) later are then = absurd are
made_join filter_bytes settings level (output ∷ outputs) (t ∷ more) later are then = (are.0, made_join filter_bytes settings level outputs more later are.1 then)

pub same_job : (a b : Job) → a.inputs ≡ b.inputs → a.output ≡ b.output → a.to_read ≡ b.to_read → a.written ≡ b.written → a ≡ b
same_job a b inputs output to_read written i = record { inputs = inputs i; output = output i; to_read = to_read i; written = written i }

-- the job with other numbers
abbrev pub on_with : Job → ℕ → List Table → Job
on_with job to_read made = record job { to_read = to_read; written = job.written ++ made }

on_sound : (filter_bytes : FilterBytes) (s : State) (job : Job) (n to_read : ℕ) (made : List Table) → IsSound filter_bytes (with_job s job) → to_read ≤ job.to_read
    → placed filter_bytes s.settings s.pages (taken (with_job s job)) job.output (take n (outstanding s.tables job)) ≡ Ok made → IsSound filter_bytes (with_job s (on_with job to_read made))
on_sound filter_bytes s job n to_read made sound less e =
    let later = on_with job to_read made in
    let is : IsJob filter_bytes s.settings s.tables job = sound.job in
    let outputs = planned s.tables (plan_of_job job) in
    let some = all_take (λ (output : Source). 1 ≤ length output.entries) n (outstanding s.tables job)
    (all_drop (λ (output : Source). 1 ≤ length output.entries) (length job.written) outputs (merge_some s.tables (plan_of_job job))) in
    let put = placed_stand filter_bytes s.settings s.pages (taken_tables (with_job s job)) job.output (take n (outstanding s.tables job)) made some (sound_stand filter_bytes (with_job s job) sound) e in
    let moved : Stand s.pages (((s.tables ++ job.written) ++ made) ++ s.kept) =
    (all_in (OnDevice s.pages) made (s.tables ++ job.written) s.kept put.0.0, pairs_in Clear clear_mutual made (s.tables ++ job.written) s.kept put.0.1) in
    let stand : Stand s.pages (taken_tables (with_job s later)) = subst (λ (l : List Table). Stand s.pages (l ++ s.kept)) (append_assoc s.tables job.written made) moved in
    job_sound filter_bytes (with_job s job) later sound stand (record {
      flushes = is.flushes;
      few = is.few;
      chosen = is.chosen;
      to_read = omega (arith, is.to_read, less);
      written = made_join filter_bytes s.settings job.output outputs job.written made is.written (made_first filter_bytes s.settings job.output n (outstanding s.tables job) made put.1);
    })

pub goes_sound : (filter_bytes : FilterBytes) (s : State) (job later : Job) → IsSound filter_bytes (with_job s job) → Progresses filter_bytes s job later → IsSound filter_bytes (with_job s later)
goes_sound filter_bytes s job later sound goes =
    subst (λ (j : Job). IsSound filter_bytes (with_job s j))
    (same_job (on_with job later.to_read goes.made) later (sym goes.inputs) (sym goes.output) refl (sym goes.written))
    (on_sound filter_bytes s job goes.more later.to_read goes.made sound goes.to_read goes.placed_so)

pub works_sound : (filter_bytes : FilterBytes) (s : State) (job later : Job) → IsSound filter_bytes s → Runs s job → Progresses filter_bytes s job later → IsSound filter_bytes (with_job s later)
works_sound filter_bytes s job later sound runs goes = goes_sound filter_bytes s job later (runs_sound filter_bytes s job sound runs) goes
