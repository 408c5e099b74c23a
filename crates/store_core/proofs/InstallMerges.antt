-- A merge that is done is installed: what a crash leaves meanwhile, and what the store is then.
use Rattle.std.proofs.Common.{◌≡◌, ◌≢◌, inl, ◌∙◌, ◌-◌, ◌<◌, ◌≤◌, ℕ, true, List, [], length, refl, sym, ap, subst, arith}
use Rattle.std.specs.Prelude.{Option, Some, None, Result, Ok, Err}
use Rattle.std.specs.Result.{IsErrAnd}
use Rattle.std.specs.List.{AllByRecursion}
use Rattle.std.proofs.lemmas.List.{append-nil}
use Rattle.disk_trait.specs.Image.{Image, Same}
use Rattle.disk_trait.specs.World.{Leads, Meanwhile, Now, ReadMoves, World, WriteMoves}
use Rattle.disk_trait.proofs.Calls.{reads_keep, reads_none}
use Rattle.disk_trait.proofs.Moments.{in_call, started}
use Rattle.filter_api.specs.Spellings.{Spelling}
use Rattle.image_model.proofs.Frames.{ready_is_state}
use Rattle.image_model.specs.Stands.{IsReady, StandsForMap, as_shown}
use Rattle.key_base.specs.Limits.{last_epoch}
use Rattle.level_merge.specs.Follows.{Follows}
use Rattle.level_merge.specs.Laws.{StandingAgrees}
use Rattle.level_merge.specs.JobValue.{JobValue}
use Rattle.log_model.specs.Area.{LogIs}
use Rattle.manifest.specs.Causes.{HasInstallCause}
use Rattle.manifest.specs.declared.fault.ManifestFault.{ManifestFault}
use Rattle.manifest.specs.declared.fault.ManifestFault.TheVariants as fault
use Rattle.manifest.specs.Manifest.{Manifest, StandsInSlot, install_of, other_place, place_of, raised}
use Rattle.manifest_model.specs.Installs.{IsInstalled, IsOldOrNew}
use Rattle.manifest_model.specs.Laws.{IsVersion}
use Rattle.manifest_model.specs.Version.{log_page_of}
use Rattle.merge_rows.proofs.Begins.{numbers_known}
use Rattle.merge_rows.specs.Steps.{numbers}
use Rattle.state_model.proofs.Installs.{state_apart}
use Rattle.state_model.proofs.NoRanges.{installed_no_range, written_no_range}
use Rattle.state_model.proofs.SoundInstalls.{slice_keeps, slice_sound}
use Rattle.state_model.specs.Sound.{IsSound, MayRun}
use Rattle.state_model.specs.SoundLaws.{Ever}
use Rattle.state_model.specs.State.{Job, State, without_job}
use Rattle.state_model.specs.Tends.{IsDone, Progresses, Tend, Worked, installed, installed_tables, installs}
use Rattle.state_model.specs.View.{state_map}
use Rattle.table_file.specs.Opened.{Opened}
use Rattle.table_model.specs.Tables.{FilterBytes}
use Rattle.store_core.specs.Answers.{stops}
use Rattle.store_core.specs.Faults.{of_manifest_fault}
use Rattle.store_core.specs.Flushing.{installed_manifest}
use Rattle.store_core.specs.Install.{Installs, merged_manifest, tables_behind}
use Rattle.store_core.specs.StoreValue.{StoreValue, rows_of}
use Rattle.store_core.specs.Running.{IsRun, RunsAs}
use Rattle.store_core.specs.Represents.{Represents, RepresentsOn}
use Rattle.store_core.specs.declared.error.StoreError.{StoreError}
use Rattle.store_core.specs.declared.error.StoreError.TheVariants as error
use Rattle.store_search.specs.Caching.{AreNumbered, renumbered}
use Rattle.store_search.proofs.Caches.{true_anew}
use Rattle.store_core.proofs.Dropped.{tied_dropped, tied_fields}
use Rattle.store_core.proofs.FlushAnswers.{passed_on}
use Rattle.store_core.proofs.Frames.{are_slots}
use Rattle.store_core.proofs.InstallHeld.{many_held}
use Rattle.store_core.proofs.InstallLeads.{AfterInstall, Before, install_leads}
use Rattle.store_core.proofs.InstallOthers.{behind_held}
use Rattle.store_core.proofs.InstallRefusals.{slot_writes}
use Rattle.store_core.proofs.Recorded.{entries_in, named_only}

-- ---- the state

module _ (bytes : FilterBytes) (s : State) (job : Job) (sound : IsSound bytes s) (runs : s.job ≡ Some job) (done : IsDone s.tables job) (left : s.epoch ≢ last_epoch) where
  stays : Progresses bytes s job job
  stays = record { inputs = refl; output = refl; to_read = omega arith; more = 0; made = []; placed_so = refl; written = sym (append-nil job.written) }

  slice : Tend Ever bytes s Worked (installed s job)
  slice = installs job job (inl runs) stays done left

  pub installed_sound : IsSound bytes (installed s job)
  installed_sound = slice_sound bytes s (installed s job) Worked sound slice

  pub installed_keeps : state_map (installed s job) ≡ state_map s
  installed_keeps = slice_keeps bytes s (installed s job) Worked sound slice

-- ---- the images

module _ (agree : StandingAgrees) (spelling : Spelling) (bytes : FilterBytes) (store : StoreValue) (run : JobValue) (s : State) (job : Job) (a : World) (slot : store.manifest.slot ≤ 1)
    (area : store.manifest.version.log_page ≡ log_page_of store.log.area) (is : IsVersion store.manifest.version) (run_is : IsRun store.manifest.version store.tables run) (runs : s.job ≡ Some job)
    (done : IsDone s.tables job) (tied : Represents spelling bytes (record store { job = Some run }) s a) where
  abbrev m : Manifest
  m = store.manifest

  abbrev behind : List Opened
  behind = tables_behind store.tables run

  abbrev Under : Image → Type 0
  Under = RepresentsOn spelling store.manifest store.tables (Some run) s

  follows : (image : Image) → Under image → Follows spelling s store.tables image run job
  follows image under = subst (λ (j : Option Job). RunsAs spelling store.tables (Some run) s j image) runs under.job

  to_before : (image : Image) → Under image → Before spelling store.manifest slot is behind store.log.area s (installed_tables s.tables job) s.log (entries_in s) image
  to_before image under =
      let f = follows image under in
      let many = many_held spelling image store.tables s.tables under.tables in
      let there = subst (λ (n : ℕ). AllByRecursion (λ (k : ℕ). k < n) (numbers run.merge.walks)) many (numbers_known run.merge.walks store.tables run_is.numbers) in
      let made = f.makes.made_are in
      let none = under.ready.named.no_ranges in
      let same : under.ready.named.area ≡ store.log.area = omega (arith, under.ready.named.area_is, area) in (
        under.ready,
        (
          behind_held agree spelling image store.tables s.tables run job (state_apart bytes s tied.sound) there f.inputs under.tables made none (written_no_range bytes s.settings s.tables job (subst (MayRun bytes s.settings s.tables) runs tied.sound.job) none),
          subst (λ (n : ℕ). LogIs n s.log image) same under.ready.named.log,
        ),
      )

  pub under_map : (image : Image) → Under image → StandsForMap spelling (state_map s) image
  under_map image under = (s, (m.version, ready_is_state spelling (place_of m.slot) (other_place m.slot) m.other_open m.version s image (are_slots m.slot slot) under.ready), refl)

  pub still_here : Meanwhile (StandsForMap spelling (state_map s)) a a
  still_here = started (StandsForMap spelling (state_map s)) a (λ image left. under_map image (tied.images image left))

  -- nothing was done
  pub not_begun : {T : Type 0} (x : StoreError) (after : StoreValue) (b : World) → ReadMoves 0 a b → Meanwhile (StandsForMap spelling (state_map s)) a b
      → after.manifest ≡ store.manifest → after.tables ≡ store.tables → after.job ≡ None → after.log ≡ store.log → after.memory ≡ store.memory → after.blocks ≡ store.blocks
      → Installs {T = T} spelling bytes s job (Err x) after a b
  not_begun x after b reads meanwhile manifest_is tables_are job_is log_is memory_is blocks_is = record {
    meanwhile = meanwhile;
    epoch = tt;
    done = tt;
    refused = λ _. tied_fields spelling bytes (record store { job = None }) after (without_job s) b manifest_is tables_are job_is log_is memory_is blocks_is
        (tied_dropped spelling bytes (record store { job = Some run }) s b (record {
          sound = tied.sound;
          none_kept = tied.none_kept;
          images = reads_keep Under 0 a b reads tied.images;
          log = tied.log;
          memory = tied.memory;
          ranges = tied.ranges;
          blocks = tied.blocks;
        }));
  }

  -- lack of memory, as it is passed on
  pub wanted : {T : Type 0} (result : Result T StoreError) (after : StoreValue) → IsErrAnd result (λ (e : StoreError). e ≡ error.Memory)
      → after.manifest ≡ store.manifest → after.tables ≡ store.tables → after.job ≡ None → after.log ≡ store.log → after.memory ≡ store.memory → after.blocks ≡ store.blocks
      → Installs {T = T} spelling bytes s job result after a a
  wanted {T = T} result after is manifest_is tables_are job_is log_is memory_is blocks_is =
      subst (λ (r : Result T StoreError). Installs {T = T} spelling bytes s job r after a a) (passed_on result error.Memory is)
      (not_begun error.Memory after a (reads_none 0 a) still_here manifest_is tables_are job_is log_is memory_is blocks_is)

  -- what the install does
  module _ (b : World) (new_is : IsVersion (merged_manifest store.manifest (rows_of (tables_behind store.tables run))).version) (epoch : s.epoch ≡ store.manifest.version.epoch)
      (moves : WriteMoves (other_place store.manifest.slot) 131072 a b) where
    page_same : {T E : Type 0} (result : Result T E)
        → Leads (StandsInSlot m.slot m.other_open m.version) (IsOldOrNew (install_of (merged_manifest m (rows_of behind)) m.version)) (IsInstalled (install_of (merged_manifest m (rows_of behind)) m.version)) result a b
        → Leads (StandsInSlot m.slot m.other_open m.version) (IsOldOrNew (install_of (record m { version = record m.version { log_page = log_page_of store.log.area; rows = rows_of behind } }) m.version))
        (IsInstalled (install_of (record m { version = record m.version { log_page = log_page_of store.log.area; rows = rows_of behind } }) m.version)) result a b
    page_same result leads = subst (λ (page : ℕ). Leads (StandsInSlot m.slot m.other_open m.version) (IsOldOrNew (install_of (record m { version = record m.version { log_page = page; rows = rows_of behind } }) m.version))
        (IsInstalled (install_of (record m { version = record m.version { log_page = page; rows = rows_of behind } }) m.version)) result a b) area leads

    all_leads : {T E : Type 0} (result : Result T E) → m.version.epoch < last_epoch
        → Leads (StandsInSlot m.slot m.other_open m.version) (IsOldOrNew (install_of (merged_manifest m (rows_of behind)) m.version)) (IsInstalled (install_of (merged_manifest m (rows_of behind)) m.version)) result a b
        → Leads (Before spelling m slot is behind store.log.area s (installed_tables s.tables job) s.log (entries_in s)) (StandsForMap spelling (state_map s)) (AfterInstall spelling m slot is behind store.log.area s (installed_tables s.tables job) s.log (entries_in s)) result a b
    all_leads result below leads =
        let left : s.epoch ≢ last_epoch = λ last. absurd (omega (arith, last, epoch, below)) in
        install_leads spelling m slot is behind store.log.area s (installed_tables s.tables job) s.log (entries_in s)
        (subst (λ (page : ℕ). IsVersion (record m.version { log_page = page; rows = rows_of behind })) area new_is) below tied.none_kept
        (installed_sound bytes s job tied.sound runs done left).order (λ image named. let before = named_only spelling m.version (as_shown s) image named in record { log = before.log; tables = installed_no_range bytes s job tied.sound runs before.tables }) (installed_keeps bytes s job tied.sound runs done left) result a b moves (page_same result leads)

    befores : Now (Before spelling m slot is behind store.log.area s (installed_tables s.tables job) s.log (entries_in s)) a
    befores image here = to_before image (tied.images image here)

    pub install_failed : {T U E : Type 0} (first : Result T E) (x : StoreError) (after : StoreValue) → m.version.epoch < last_epoch
        → Leads (StandsInSlot m.slot m.other_open m.version) (IsOldOrNew (install_of (merged_manifest m (rows_of behind)) m.version)) (IsInstalled (install_of (merged_manifest m (rows_of behind)) m.version)) first a b
        → after.stopped ≡ true → Installs {T = U} spelling bytes s job (Err x) after a b
    install_failed first x after below leads stopped = record {
      meanwhile = (all_leads first below leads).meanwhile befores;
      epoch = tt;
      done = tt;
      refused = λ runs_on. absurd (let both = sym stopped ∙ runs_on in cc);
    }

    pub install_meanwhile : {T E : Type 0} (first : Result T E) → m.version.epoch < last_epoch
        → Leads (StandsInSlot m.slot m.other_open m.version) (IsOldOrNew (install_of (merged_manifest m (rows_of behind)) m.version)) (IsInstalled (install_of (merged_manifest m (rows_of behind)) m.version)) first a b
        → Meanwhile (StandsForMap spelling (state_map s)) a b
    install_meanwhile first below leads = (all_leads first below leads).meanwhile befores

    pub install_done : {T U E : Type 0} (x : T) (y : U) (after : StoreValue) → m.version.epoch < last_epoch
        → Leads {E = E} (StandsInSlot m.slot m.other_open m.version) (IsOldOrNew (install_of (merged_manifest m (rows_of behind)) m.version)) (IsInstalled (install_of (merged_manifest m (rows_of behind)) m.version)) (Ok x) a b
        → after.manifest ≡ installed_manifest (merged_manifest m (rows_of behind)) → after.tables ≡ behind → after.job ≡ None → after.log ≡ store.log → after.memory ≡ store.memory → AreNumbered store.blocks (length store.tables)
        → after.blocks ≡ renumbered store.blocks (length store.tables)
        → Installs {T = U} spelling bytes s job (Ok y) after a b
    install_done x y after below leads manifest_is tables_are job_is log_is memory_is numbered blocks_is =
        let all = all_leads (Ok x) below leads in
        let left : s.epoch ≢ last_epoch = λ last. absurd (omega (arith, last, epoch, below)) in
        let back : 1 - (1 - m.slot) ≡ m.slot = omega (arith, slot) in
        record {
          meanwhile = all.meanwhile befores;
          epoch = left;
          done = tied_fields spelling bytes (record store { manifest = installed_manifest (merged_manifest m (rows_of behind)); tables = behind; job = None; blocks = renumbered store.blocks (length store.tables) }) after (installed s job) b
              manifest_is tables_are job_is log_is memory_is blocks_is (record {
                sound = installed_sound bytes s job tied.sound runs done left;
                none_kept = tied.none_kept;
                images = λ image here.
                    let end = all.after befores image here in
                    let ready : IsReady spelling (other_place m.slot) (place_of m.slot) true (raised (merged_manifest m (rows_of behind)).version) (installed s job) image =
                    subst (λ (page : ℕ). IsReady spelling (other_place m.slot) (place_of m.slot) true (raised (record m.version { log_page = page; rows = rows_of behind })) (installed s job) image) (sym area) end.0 in
                    record {
                      ready = subst (λ (n : ℕ). IsReady spelling (other_place m.slot) (place_of n) true (raised (merged_manifest m (rows_of behind)).version) (installed s job) image) (sym back) ready;
                      tables = end.1;
                      job = tt;
                    };
                log = tied.log;
                memory = tied.memory;
                ranges = tied.ranges;
                blocks = true_anew store.blocks (length store.tables) behind (installed s job).tables numbered;
              });
          refused = tt;
        }

    -- what only reads leaves the map
    unread : ReadMoves 0 a b → Meanwhile (StandsForMap spelling (state_map s)) a b
    unread reads = in_call (StandsForMap spelling (state_map s)) Same a b (λ image left. under_map image (tied.images image left)) reads.time (λ was image left same. subst (StandsForMap spelling (state_map s)) (sym same) (under_map was (tied.images was left)))

    -- it fails: in a call of the device, or before any
    pub install_refused : {T U : Type 0} (f : ManifestFault) (x : StoreError) (after : StoreValue) → x ≡ of_manifest_fault f → HasInstallCause (other_place m.slot) a b f → (f ≡ fault.Epoch → ReadMoves 0 a b)
        → (f ≢ fault.Epoch → m.version.epoch < last_epoch)
        → Leads {T = T} (StandsInSlot m.slot m.other_open m.version) (IsOldOrNew (install_of (merged_manifest m (rows_of behind)) m.version)) (IsInstalled (install_of (merged_manifest m (rows_of behind)) m.version)) (Err f) a b
        → after.manifest ≡ store.manifest → after.tables ≡ store.tables → after.job ≡ None → after.log ≡ store.log → after.memory ≡ store.memory → after.blocks ≡ store.blocks
        → after.stopped ≡ stops x → Installs {T = U} spelling bytes s job (Err x) after a b
    install_refused {U = U} fault.Memory x after is cause last below leads manifest_is tables_are job_is log_is memory_is blocks_is stopped =
        not_begun {T = U} x after b cause (unread cause) manifest_is tables_are job_is log_is memory_is blocks_is
    install_refused {U = U} fault.Epoch x after is cause last below leads manifest_is tables_are job_is log_is memory_is blocks_is stopped =
        not_begun {T = U} x after b (last refl) (unread (last refl)) manifest_is tables_are job_is log_is memory_is blocks_is
    install_refused {U = U} (fault.Device f) x after is cause last below leads manifest_is tables_are job_is log_is memory_is blocks_is stopped =
        install_failed {U = U} (Err (fault.Device f)) x after (below (λ never. absurd cc)) leads (stopped ∙ ap stops is ∙ slot_writes _ f cause.0)
    install_refused fault.NotAStore x after is cause last below leads manifest_is tables_are job_is log_is memory_is blocks_is stopped = absurd cause
    install_refused fault.AlreadyAStore x after is cause last below leads manifest_is tables_are job_is log_is memory_is blocks_is stopped = absurd cause
    install_refused (fault.Damaged damage) x after is cause last below leads manifest_is tables_are job_is log_is memory_is blocks_is stopped = absurd cause
