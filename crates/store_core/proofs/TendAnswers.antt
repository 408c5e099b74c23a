-- What a slice is answered is a merge slice of the state.
use Rattle.std.proofs.Common.{◌≡◌, ◌≢◌, ◌⊎◌, inl, inr, ◌∙◌, ◌<◌, ◌≤◌, ℕ, zero, suc, Bool, false, List, [], ◌∷◌, ◌++◌, drop, length, refl, sym, ap, ap₂, subst, arith}
use Rattle.std.specs.Prelude.{Option, Some, None, Result, Ok, Err, IsOk, take}
use Rattle.std.proofs.lemmas.List.{append-nil}
use Rattle.disk_trait.specs.Image.{Image}
use Rattle.disk_trait.specs.World.{Meanwhile, Rose, World}
use Rattle.disk_trait.specs.declared.fault.DiskFault.{DiskFault}
use Rattle.disk_trait.proofs.Moments.{meanwhile_then, started as begun_at}
use Rattle.range_model.specs.Sources.{Source}
use Rattle.extent_model.specs.Extents.{Extent}
use Rattle.extent_model.specs.Gaps.{first_gap, largest_gap}
use Rattle.filter_api.specs.Spellings.{Spelling}
use Rattle.filter_api.specs.declared.settings.Settings.{Settings}
use Rattle.image_model.specs.Stands.{StandsForMap}
use Rattle.key_base.specs.Limits.{last_epoch}
use Rattle.level_merge.specs.Follows.{IsJobRefusal}
use Rattle.level_merge.specs.JobValue.{JobValue}
use Rattle.level_merge.specs.declared.fault.JobFault.{JobFault}
use Rattle.level_merge.specs.declared.fault.JobFault.TheVariants as fault
use Rattle.level_merge.specs.declared.fault.Sliced.TheVariants as sliced
use Rattle.line_model.specs.Replies as reply
use Rattle.state_model.proofs.SoundJobs.{runs_sound}
use Rattle.state_model.specs.Merges.{NoRoom, at_page, before, placed, planned}
use Rattle.state_model.specs.Sound.{IsSound}
use Rattle.state_model.specs.State.{Job, State, without_job}
use Rattle.state_model.specs.Taken.{taken}
use Rattle.state_model.specs.Tends as model
use Rattle.state_model.specs.Tends.{IsDone, MayWrite, Progresses, Runs, Tend, installed, next_placed, outstanding, with_job}
use Rattle.state_model.specs.View.{state_map}
use Rattle.table_model.specs.Tables.{FilterBytes, Table, source_pages, table_from}
use Rattle.store_core.specs.Answers.{told}
use Rattle.store_core.specs.Install.{Installs, IsInstallRefusal}
use Rattle.store_core.specs.StoreValue.{IsConsistent, StoreValue, rows_of}
use Rattle.store_core.specs.Tending.{IsNext, SlicesJob, Tends, answer_to, told_slice}
use Rattle.store_core.specs.Represents.{Represents}
use Rattle.store_core.specs.declared.error.StoreError.{StoreError}
use Rattle.store_core.specs.declared.error.StoreError.TheVariants as error
use Rattle.store_core.specs.declared.tending.Tended.TheVariants as tended
use Rattle.store_core.proofs.Dropped.{tied_dropped}
use Rattle.store_core.proofs.Frames.{under_stands}
use Rattle.manifest_model.specs.Version.{Version}
use Rattle.std.specs.Option.{option_map}

below_last : (n : ℕ) → n < last_epoch → n ≢ last_epoch
unfolding last_epoch
below_last n below same = absurd (omega (arith, below, same))

rose_since : (a b c : ℕ) → a ≤ b → Rose b c → Rose a c
rose_since a b c later rose = omega (arith, later, rose)

-- whether it is stopped is no part of what it is tied to
pub tied_stopped : (spelling : Spelling) (bytes : FilterBytes) (store : StoreValue) (s : State) (w : World) (stopped : Bool) → Represents spelling bytes store s w → Represents spelling bytes (record store { stopped = stopped }) s w
tied_stopped spelling bytes store s w stopped tied = record { sound = tied.sound; none_kept = tied.none_kept; images = tied.images; log = tied.log; memory = tied.memory; ranges = tied.ranges; blocks = tied.blocks }

-- a store without a merge, stopped or not
pub tied_none : (spelling : Spelling) (bytes : FilterBytes) (store : StoreValue) (s : State) (w : World) (stopped : Bool) → store.job ≡ None → Represents spelling bytes (record store { job = None }) s w
    → Represents spelling bytes (record store { stopped = stopped }) s w
tied_none spelling bytes store s w stopped none tied =
    subst (λ (running : Option JobValue). Represents spelling bytes (record store { stopped = stopped; job = running }) s w) (sym none)
    (tied_stopped spelling bytes (record store { job = None }) s w stopped tied)

-- ---- where something may be written

module _ (bytes : FilterBytes) (settings : Settings) (pages : ℕ) (extents : List Extent) (level : ℕ) where
  abbrev PlacesSo : List Source → Result (List Table) NoRoom
  PlacesSo outputs = placed bytes settings pages extents level outputs

  -- where the first of more has a place, it has one by itself
  first_placed : (output : Source) (more : List Source) (page : Option ℕ) → first_gap pages extents (source_pages bytes settings output) ≡ page → (made : List Table)
      → PlacesSo (output ∷ more) ≡ Ok made → IsOk (PlacesSo (output ∷ []))
  first_placed output more None none made is =
      absurd (let never = sym is ∙ ap (λ (o : Option ℕ). at_page o (λ p. before (table_from bytes settings level p output) (placed bytes settings pages ((p, source_pages bytes settings output) ∷ extents) level more))
      (record { need = source_pages bytes settings output; gap = largest_gap pages extents })) none in cc)
  first_placed output more (Some page) some made is =
      subst (λ (r : Result (List Table) NoRoom). IsOk r) (sym (ap (λ (o : Option ℕ). at_page o (λ p. Ok (table_from bytes settings level p output ∷ []))
      (record { need = source_pages bytes settings output; gap = largest_gap pages extents })) some)) refl

  next_placed_of : (outputs : List Source) (n : ℕ) (made : List Table) → PlacesSo (take n outputs) ≡ Ok made → (1 ≤ n) ⊎ (outputs ≡ []) → IsOk (PlacesSo (take 1 outputs))
  next_placed_of [] n made is some = refl
  next_placed_of (output ∷ more) zero made is (inl some) = absurd (omega (arith, some))
  next_placed_of (output ∷ more) zero made is (inr none) = absurd cc
  next_placed_of (output ∷ more) (suc n) made is some = first_placed output (take n more) _ refl made is

ok_same : (x y : List Table) (r : Result (List Table) NoRoom) → r ≡ Ok x → r ≡ Ok y → x ≡ y
ok_same x y r first second = let both = sym first ∙ second in cc

-- a job that goes on until it is done, with an epoch left, may write
module _ (bytes : FilterBytes) (s : State) (job later : Job) (goes : Progresses bytes s job later) (done : IsDone s.tables later) where
  same_written : goes.more ≡ 0 → later.written ≡ job.written
  same_written none =
      let nothing = ok_same [] goes.made _ (ap (λ (n : ℕ). placed bytes s.settings s.pages (taken (with_job s job)) job.output (take n (outstanding s.tables job))) none) goes.placed_so in
      goes.written ∙ ap (λ (ts : List Table). job.written ++ ts) (sym nothing) ∙ append-nil job.written

  none_left : goes.more ≡ 0 → outstanding s.tables job ≡ []
  none_left none =
      ap₂ (λ (n : ℕ) (outputs : List Source). drop n outputs) (ap length (sym (same_written none)))
      (ap₂ (λ (is : List Table) (n : ℕ). planned s.tables (record { inputs = is; output = n })) (sym goes.inputs) (sym goes.output))
      ∙ done.all_written

  some_or_none : (n : ℕ) → goes.more ≡ n → (1 ≤ goes.more) ⊎ (outstanding s.tables job ≡ [])
  some_or_none zero none = inr (none_left none)
  some_or_none (suc n) some = inl (omega (arith, some))

  pub may_write : s.epoch ≢ last_epoch → MayWrite bytes s job
  may_write left = record {
    room = next_placed_of bytes s.settings s.pages (taken (with_job s job)) job.output (outstanding s.tables job) goes.more goes.made goes.placed_so (some_or_none goes.more refl);
    epoch = λ _. left;
  }

-- ---- what is answered

module _ (spelling : Spelling) (bytes : FilterBytes) (s : State) where
  abbrev Map : Image → Type 0
  Map = StandsForMap spelling (state_map s)

  -- nothing was written, and the job is dropped
  module _ (store : StoreValue) (a b : World) (crash : Meanwhile Map a b) (tied : store.stopped ≡ false → Represents spelling bytes store (without_job s) b) where
    pub wants_memory : Tends spelling bytes s (told_slice (Err error.Memory)) store a b
    wants_memory = record { tended = model.Refused reply.Memory; told_is = refl; after = without_job s; slice = model.no_memory tt; crash = crash; tied = tied }

    module _ (job : Job) (runs : Runs s job) where
      pub not_read : (cause : DiskFault) → 0 < job.to_read → Rose a.seen.read_faults b.seen.read_faults → Tends spelling bytes s (told_slice (Err (error.Device cause))) store a b
      not_read cause some rose = record { tended = model.Refused reply.Device; told_is = refl; after = without_job s; slice = model.read_failed job runs some rose; crash = crash; tied = tied }

      pub not_written : (cause : DiskFault) → IsSound bytes (without_job s) → MayWrite bytes s job → Rose a.seen.write_faults b.seen.write_faults → Tends spelling bytes s (told_slice (Err (error.Device cause))) store a b
      not_written cause sound may rose = record {
        tended = model.Refused reply.Device;
        told_is = refl;
        after = without_job s;
        slice = model.write_failed job (without_job s) runs may rose (record { settings = refl; pages = refl; no_job = refl; sound = sound }) refl;
        crash = crash;
        tied = tied;
      }

      pub no_place : (later : Job) (need gap : ℕ) → Progresses bytes s job later → next_placed bytes s later 1 ≡ Err (record { need = need; gap = gap })
          → Tends spelling bytes s (told_slice (Ok (tended.Full need gap))) store a b
      no_place later need gap goes is = record {
        tended = model.Refused (reply.Full need gap);
        told_is = refl;
        after = without_job s;
        slice = model.no_room job later (record { need = need; gap = gap }) runs goes is;
        crash = crash;
        tied = tied;
      }

      pub last_reached : (why : StoreError) (later : Job) → told why ≡ Some reply.LastEpoch → Progresses bytes s job later → IsDone s.tables later → s.epoch ≡ last_epoch
          → Tends spelling bytes s (told_slice (Err why)) store a b
      last_reached why later is goes done last = record {
        tended = model.Refused reply.LastEpoch;
        told_is = ap (λ (r : Option reply.Reply). option_map (λ (x : reply.Reply). model.Refused x) r) is;
        after = without_job s;
        slice = model.last_epoch_reached job later runs goes done last;
        crash = crash;
        tied = tied;
      }

      -- a slice of the job was refused
      pub slice_refused : (why : JobFault) → IsSound bytes (without_job s) → IsJobRefusal bytes (with_job s job) job a b why → Tends spelling bytes s (told_slice (answer_to why)) store a b
      slice_refused fault.Memory sound is = wants_memory
      slice_refused (fault.Device cause) sound (inl read) = not_read cause read.1 read.2
      slice_refused (fault.Device cause) sound (inr write) = not_written cause sound (record { room = write.1.room; epoch = write.1.epoch }) write.2
      slice_refused (fault.Damaged damage) sound is = absurd is
      slice_refused (fault.Full need gap) sound is = no_place is.0 need gap is.1 is.2

  -- ---- the job went on

  module _ (job : Job) (runs : Runs s job) (store : StoreValue) (m : JobValue) (a b : World) where
    -- something is left of it
    pub works_on : SlicesJob spelling bytes store (with_job s job) job m (Ok sliced.Working) a b → Tends spelling bytes s (told_slice (Ok tended.Worked)) (record store { job = Some m }) a b
    works_on slices = record {
      tended = model.Worked;
      told_is = refl;
      after = with_job s slices.done.later;
      slice = model.works job slices.done.later runs slices.done.progresses slices.done.said.0 slices.done.said.1;
      crash = slices.meanwhile;
      tied = λ _. slices.done.tied;
    }

    -- nothing is left of it
    module _ (slices : SlicesJob spelling bytes store (with_job s job) job m (Ok sliced.Ready) a b) (after : StoreValue) (c : World) where
      abbrev last : Job
      last = slices.done.later

      pub installs_it : {T : Type 0} (x : T) → Installs spelling bytes (with_job s slices.done.later) slices.done.later (Ok x) after b c
          → Tends spelling bytes s (told_slice (Ok tended.Worked)) after a c
      installs_it x installs = record {
        tended = model.Worked;
        told_is = refl;
        after = installed s last;
        slice = model.installs job last runs slices.done.progresses slices.done.said installs.epoch;
        crash = meanwhile_then Map a b c slices.meanwhile installs.meanwhile;
        tied = λ _. installs.done;
      }

      module _ (epoch : ℕ) (agree : s.epoch ≡ epoch) (sound : IsSound bytes (without_job s)) (writes : a.seen.write_faults ≤ b.seen.write_faults) where
        joined : (why : StoreError) {T : Type 0} → Installs {T = T} spelling bytes (with_job s slices.done.later) slices.done.later (Err why) after b c → Meanwhile Map a c
        joined why installs = meanwhile_then Map a b c slices.meanwhile installs.meanwhile

        pub not_installed : {T : Type 0} (v : Version) (why : StoreError) → v.epoch ≡ epoch → Installs {T = T} spelling bytes (with_job s slices.done.later) slices.done.later (Err why) after b c → IsInstallRefusal v b c why
            → Tends spelling bytes s (told_slice (Err why)) after a c
        not_installed v error.Memory same installs is = wants_memory after a c (joined error.Memory installs) installs.refused
        not_installed v (error.Device cause) same installs is =
            not_written after a c (joined (error.Device cause) installs) installs.refused job runs cause sound
            (may_write bytes s job last slices.done.progresses slices.done.said (below_last s.epoch (omega (arith, agree, same, is.2)))) (rose_since _ _ _ writes is.1)
        not_installed v error.Stopped same installs is = absurd is
        not_installed v (error.Limit limit) same installs is =
            last_reached after a c (joined (error.Limit limit) installs) installs.refused job runs (error.Limit limit) last (ap (λ (r : reply.Reply). Some r) is.0) slices.done.progresses slices.done.said
            (agree ∙ sym same ∙ is.1)
        not_installed v (error.Full need gap) same installs is = absurd is
        not_installed v (error.Damaged damage) same installs is = absurd is
        not_installed v error.NotAStore same installs is = absurd is
        not_installed v error.AlreadyAStore same installs is = absurd is
        not_installed v (error.BadSettings field) same installs is = absurd is

  -- ---- before a slice

  module _ (store : StoreValue) (w : World) (tied : Represents spelling bytes store s w) where
    crash_now : (few : store.manifest.slot ≤ 1) → rows_of store.tables ≡ store.manifest.version.rows → Meanwhile Map w w
    crash_now few rows = begun_at Map w (λ image left. under_stands spelling store.manifest store.tables store.job few rows s image (tied.images image left))

    -- no merge could be begun
    pub none_begun : IsConsistent store → Tends spelling bytes s (told_slice (Err error.Memory)) (record store { job = None }) w w
    none_begun whole = wants_memory (record store { job = None }) w w (crash_now whole.slot whole.rows) (λ _. tied_dropped spelling bytes store s w tied)

    -- nothing is to be merged
    pub idles : IsConsistent store → store.job ≡ None → IsNext spelling store s None → Tends spelling bytes s (told_slice (Ok tended.Idle)) (record store { job = None }) w w
    idles whole none next = record {
      tended = model.Idle;
      told_is = refl;
      after = s;
      slice = model.idle next.0 next.1;
      crash = crash_now whole.slot whole.rows;
      tied = λ _. subst (λ (running : Option JobValue). Represents spelling bytes (record store { job = running }) s w) none tied;
    }

    -- a merge is taken up
    pub taken_up : (m : JobValue) (next : IsNext spelling store s (Some m)) → Represents spelling bytes (record store { job = Some m }) (with_job s next.0) w
    taken_up m next = record {
      sound = runs_sound bytes s next.0 tied.sound next.1;
      none_kept = tied.none_kept;
      images = λ image left. next.2 image (tied.images image left);
      log = tied.log;
      memory = tied.memory;
      ranges = tied.ranges;
      blocks = tied.blocks;
    }
