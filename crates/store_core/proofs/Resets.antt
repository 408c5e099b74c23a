-- A version with other numbers is installed: it keeps the rules, what a crash leaves meanwhile, and what the store is then.
use Rattle.std.proofs.Common.{◌≡◌, ◌≢◌, ◌⊎◌, inl, inr, ◌∙◌, ◌-◌, ◌<◌, ◌≤◌, ◌+◌, ℕ, Bool, true, false, cond, List, [], map, refl, sym, ap, subst, arith}
use Rattle.std.specs.Prelude.{Option, None, Result, Ok, Err, ◌==◌}
use Rattle.std.specs.List.{AllByRecursion}
use Rattle.std.proofs.lemmas.Bool.{ne_eqb}
use Rattle.disk_trait.specs.Image.{Image, Same, Torn}
use Rattle.disk_trait.specs.World.{Leads, Meanwhile, ReadMoves, World, WriteMoves}
use Rattle.disk_trait.proofs.Calls.{leads_framed, leads_weaker, reads_keep}
use Rattle.disk_trait.proofs.Moments.{in_call, meanwhile_weaker}
use Rattle.filter_api.specs.Ranges.{InRange}
use Rattle.filter_api.specs.Spellings.{Spelling}
use Rattle.filter_api.specs.declared.settings.Settings.{Settings}
use Rattle.image_model.proofs.Frames.{named_behind_slots, ready_is_state}
use Rattle.image_model.proofs.Installs.{installed_ready, numbers_changed}
use Rattle.image_model.proofs.Placed.{behind_logs}
use Rattle.table_model.specs.Laws.{IsApartFromRow}
use Rattle.image_model.specs.Installs.{with_numbers}
use Rattle.image_model.specs.Stands.{IsNamedBy, IsReady, StandsFor, as_shown}
use Rattle.key_base.specs.Limits.{last_epoch, max_device_pages, max_ratio}
use Rattle.level_merge.specs.JobValue.{JobValue}
use Rattle.store_search.specs.TablesAgree.{TablesAgree}
use Rattle.line_model.specs.Replies.{LastEpoch, Reply}
use Rattle.manifest.proofs.Steps.{may_install, raised_is}
use Rattle.manifest.specs.Causes.{HasInstallCause}
use Rattle.manifest.specs.Manifest.{Manifest, StandsInSlot, install_of, other_place, place_of, raised}
use Rattle.manifest.specs.declared.fault.ManifestFault.{ManifestFault}
use Rattle.manifest.specs.declared.fault.ManifestFault.TheVariants as fault
use Rattle.manifest_model.proofs.Rows.{rows_keep}
use Rattle.manifest_model.specs.Installs.{Install, IsInstalled, IsOldOrNew, MayInstall}
use Rattle.manifest_model.specs.Laws.{IsVersion}
use Rattle.manifest_model.specs.Rows.{extent_of}
use Rattle.manifest_model.specs.Version.{Version}
use Rattle.state_model.proofs.SoundResets.{larger_sound, on_larger, settings_sound}
use Rattle.state_model.specs.Resets.{with_settings}
use Rattle.state_model.specs.State.{State}
use Rattle.table_file.specs.Opened.{Opened}
use Rattle.table_model.specs.Images.{StandsInExtent}
use Rattle.table_model.specs.Tables.{FilterBytes, Table}
use Rattle.store_core.specs.Answers.{stops}
use Rattle.store_core.specs.Faults.{of_manifest_fault}
use Rattle.store_core.specs.Flushing.{installed_manifest}
use Rattle.store_core.specs.Represents.{Represents, RepresentsOn}
use Rattle.store_core.specs.Resetting.{IsMade, IsResetRefusal, Resets}
use Rattle.store_core.specs.StoreValue.{StoreValue, rows_of}
use Rattle.store_core.specs.declared.error.StoreError.{StoreError}
use Rattle.store_core.proofs.Frames.{are_slots, held_kept}
use Rattle.store_core.proofs.InstallRefusals.{slot_writes}

-- ---- the version

-- with other settings in range, and more pages up to the most, it is one
pub numbered_is_version : (v : Version) (settings : Settings) (pages : ℕ) → IsVersion v → InRange settings → settings.ratio ≤ max_ratio → v.pages ≤ pages → pages ≤ max_device_pages
    → IsVersion (with_numbers settings pages v.epoch v)
numbered_is_version v settings pages is ranges ratio more most =
    let old = rows_keep.kept v is.placed in
    record {
      few_tables = is.few_tables;
      some_epoch = is.some_epoch;
      epoch = is.epoch;
      some_pages = omega (arith, is.some_pages, more);
      few_pages = most;
      hash_bits = ranges.hash_bits;
      real_bits = ranges.real_bits;
      ratio = omega (arith, ratio);
      log_page = is.log_page;
      rows = is.rows;
      settings = is.settings;
      placed = rows_keep.unbroken (with_numbers settings pages v.epoch v) (record {
        each = old.each;
        levels = old.levels;
        laid = record { on_device = on_larger v.pages pages (map extent_of v.rows) more old.laid.on_device; apart = old.laid.apart };
      });
    }

-- ---- what a crash leaves meanwhile

module _ (spelling : Spelling) (m : Manifest) (opened : List Opened) (running : Option JobValue) (settings : Settings) (pages : ℕ) (s : State) where
  -- the version to come, before its epoch is raised, and the state under it
  abbrev pub next : Manifest
  next = record m { version = with_numbers settings pages m.version.epoch m.version }

  abbrev pub to : State
  to = record s { settings = settings; pages = pages; epoch = s.epoch + 1; job = None }

  abbrev i : Install
  i = install_of (record m { version = with_numbers settings pages m.version.epoch m.version }) m.version

  abbrev pub During : Image → Type 0
  During image = StandsFor spelling s image ⊎ StandsFor spelling (record s { settings = settings; pages = pages; epoch = s.epoch + 1; job = None }) image

  module _ (slot_few : m.slot ≤ 1) (is : IsVersion m.version) (new_is : IsVersion (with_numbers settings pages m.version.epoch m.version)) (below : m.version.epoch < last_epoch)
      (rows : rows_of opened ≡ m.version.rows) (none_kept : s.kept ≡ []) where
    -- all that lies after the slots
    abbrev Behind : Image → Type 0
    Behind image = IsNamedBy spelling m.version (as_shown s) image × TablesAgree spelling opened s.tables image

    slots_keep : (f g : Image) → Behind f → Torn (other_place m.slot) 131072 f g → Behind g
    slots_keep f g here torn =
        let before : other_place m.slot + 131072 ≤ 262144 = omega arith in (
          named_behind_slots spelling m.version (as_shown s) (other_place m.slot) 131072 f g is before torn here.0,
          held_kept spelling (other_place m.slot) 131072 f g torn opened s.tables
              (subst (AllByRecursion (IsApartFromRow (other_place m.slot) 131072)) (sym rows) (behind_logs m.version (other_place m.slot) 131072 is (omega (arith, before)))) here.1,
        )

    new_named : (image : Image) → Behind image → IsNamedBy spelling (raised (with_numbers settings pages m.version.epoch m.version)) (as_shown to) image
    new_named image here =
        subst (λ (n : ℕ). IsNamedBy spelling (raised (with_numbers settings pages m.version.epoch m.version)) (record (as_shown s) { settings = settings; pages = pages; epoch = n }) image)
        (ap (λ (n : ℕ). n + 1) (sym here.0.epoch)) (numbers_changed spelling m.version (as_shown s) settings pages (m.version.epoch + 1) image here.0)

    one_or_other : (image : Image) → Behind image × IsOldOrNew i image → During image
    one_or_other image (here, inl old) = inl (m.version, record { version_is = old; named = here.0 })
    one_or_other image (here, inr new_there) = inr (raised (next).version, record { version_is = new_there; named = new_named image here })

    may : MayInstall i
    may = may_install next m.version slot_few (raised_is (next).version new_is (λ last. absurd (omega (arith, last, below)))) refl

    ends : (image : Image) → Behind image × IsInstalled i image → RepresentsOn spelling (installed_manifest next) opened None to image
    ends image (here, there) =
        let ready = installed_ready spelling i to image may there (new_named image here) (subst (λ (kept : List Table). AllByRecursion (StandsInExtent spelling image) kept) (sym none_kept) tt) in
        let back : 1 - (1 - m.slot) ≡ m.slot = omega (arith, slot_few) in
        record {
          ready = subst (λ (n : ℕ). IsReady spelling (other_place m.slot) (place_of n) true (raised (next).version) to image) (sym back) ready;
          tables = here.1;
          job = tt;
        }

    pub reset_leads : {T E : Type 0} (result : Result T E) (c d : World) → WriteMoves (other_place m.slot) 131072 c d
        → Leads (StandsInSlot m.slot m.other_open m.version) (IsOldOrNew i) (IsInstalled i) result c d
        → Leads (RepresentsOn spelling m opened running s) During (RepresentsOn spelling (installed_manifest next) opened None to) result c d
    reset_leads result c d moves leads =
        leads_weaker (λ image. Behind image × StandsInSlot m.slot m.other_open m.version image) (λ image. Behind image × IsOldOrNew i image) (λ image. Behind image × IsInstalled i image)
        (RepresentsOn spelling m opened running s) During (RepresentsOn spelling (installed_manifest next) opened None to) result c d
        (leads_framed Behind (StandsInSlot m.slot m.other_open m.version) (IsOldOrNew i) (IsInstalled i) (other_place m.slot) 131072 result c d slots_keep moves.time leads)
        (λ image under. ((under.ready.named, under.tables), record { current = under.ready.current; gate = under.ready.gate }))
        one_or_other ends

-- ---- what the store is then

-- below the last epoch the change is made
is_made : (P : State → Type 0) (s to : State) → s.epoch ≢ last_epoch → P to → IsMade (cond (s.epoch == last_epoch) (Err LastEpoch) (Ok to)) P
is_made P s to left has = subst (λ (b : Bool). IsMade (cond b (Err LastEpoch) (Ok to)) P) (sym (ne_eqb s.epoch last_epoch left)) has

module _ (spelling : Spelling) (bytes : FilterBytes) (store : StoreValue) (s : State) (a : World) (slot : store.manifest.slot ≤ 1) (tied : Represents spelling bytes store s a) where
  abbrev m : Manifest
  m = store.manifest

  abbrev Under : Image → Type 0
  Under = RepresentsOn spelling store.manifest store.tables store.job s

  under_state : (image : Image) → Under image → StandsFor spelling s image
  under_state image under = (m.version, ready_is_state spelling (place_of m.slot) (other_place m.slot) m.other_open m.version s image (are_slots m.slot slot) under.ready)

  -- refused before any write, and all is as it was
  pub not_reset : {T : Type 0} (change : Result State Reply) (x : StoreError) (after : StoreValue) (b : World) → ReadMoves 0 a b → after ≡ store → Resets {T = T} spelling bytes s change (Err x) after a b
  not_reset change x after b reads same = record {
    meanwhile = in_call (λ image. StandsFor spelling s image ⊎ IsMade change (λ (t : State). StandsFor spelling t image)) Same a b (λ image left. inl (under_state image (tied.images image left))) reads.time
        (λ was image left is. inl (subst (StandsFor spelling s) (sym is) (under_state was (tied.images was left))));
    done = tt;
    refused = λ _. subst (λ (k : StoreValue). Represents spelling bytes k s b) (sym same) (record {
      sound = tied.sound;
      none_kept = tied.none_kept;
      images = reads_keep Under 0 a b reads tied.images;
      log = tied.log;
      memory = tied.memory;
      ranges = tied.ranges;
      blocks = tied.blocks;
    });
  }

  -- what the install does
  module _ (settings : Settings) (pages : ℕ) (b : World) (is : IsVersion store.manifest.version) (new_is : IsVersion (with_numbers settings pages store.manifest.version.epoch store.manifest.version))
      (rows : rows_of store.tables ≡ store.manifest.version.rows) (ranges : InRange settings) (ratio : settings.ratio ≤ max_ratio) (more : s.pages ≤ pages) (most : pages ≤ max_device_pages)
      (epoch : s.epoch ≡ store.manifest.version.epoch) (moves : WriteMoves (other_place store.manifest.slot) 131072 a b) where
    abbrev v : Version
    v = store.manifest.version

    abbrev change : Result State Reply
    change = with_settings settings (record s { pages = pages })

    abbrev grown : Manifest
    grown = record store.manifest { version = with_numbers settings pages store.manifest.version.epoch store.manifest.version }

    abbrev Either : Image → Type 0
    Either image = StandsFor spelling s image ⊎ IsMade change (λ (t : State). StandsFor spelling t image)

    all_leads : {T E : Type 0} (result : Result T E) → v.epoch < last_epoch
        → Leads (StandsInSlot m.slot m.other_open v) (IsOldOrNew (install_of grown v)) (IsInstalled (install_of grown v)) result a b
        → Leads Under (During spelling m store.tables store.job settings pages s) (RepresentsOn spelling (installed_manifest grown) store.tables None (to spelling m store.tables store.job settings pages s)) result a b
    all_leads result below leads = reset_leads spelling m store.tables store.job settings pages s slot is new_is below rows tied.none_kept result a b moves leads

    not_last : v.epoch < last_epoch → s.epoch ≢ last_epoch
    not_last below = λ last. absurd (omega (arith, last, epoch, below))

    either : v.epoch < last_epoch → Meanwhile (During spelling m store.tables store.job settings pages s) a b → Meanwhile Either a b
    either below meanwhile = meanwhile_weaker (During spelling m store.tables store.job settings pages s) Either a b meanwhile (λ image one. elim one [
      | inl before ↦ inl before
      | inr behind ↦ inr (is_made (λ (t : State). StandsFor spelling t image) s (to spelling m store.tables store.job settings pages s) (not_last below) behind)
    ])

    pub reset_done : {T U E : Type 0} (x : T) (y : U) (after : StoreValue) → v.epoch < last_epoch
        → Leads {E = E} (StandsInSlot m.slot m.other_open v) (IsOldOrNew (install_of grown v)) (IsInstalled (install_of grown v)) (Ok x) a b
        → after ≡ record store { manifest = installed_manifest grown; job = None } → Resets {T = U} spelling bytes s change (Ok y) after a b
    reset_done x y after below leads same =
        let all = all_leads (Ok x) below leads in
        record {
          meanwhile = either below (all.meanwhile tied.images);
          done = is_made (λ (t : State). Represents spelling bytes after t b) s (to spelling m store.tables store.job settings pages s) (not_last below)
              (subst (λ (k : StoreValue). Represents spelling bytes k (to spelling m store.tables store.job settings pages s) b) (sym same) (record {
                sound = settings_sound bytes settings (record s { pages = pages }) (to spelling m store.tables store.job settings pages s) ranges ratio (larger_sound bytes pages s more most tied.sound)
                    (ap (λ (b : Bool). cond b (Err LastEpoch) (Ok (to spelling m store.tables store.job settings pages s))) (ne_eqb s.epoch last_epoch (not_last below)));
                none_kept = tied.none_kept;
                images = all.after tied.images;
                log = tied.log;
                memory = tied.memory;
                ranges = tied.ranges;
                blocks = tied.blocks;
              }));
          refused = tt;
        }

    -- it fails: in a call of the device, or before any
    pub reset_refused : {T U : Type 0} (f : ManifestFault) (x : StoreError) (after : StoreValue) → x ≡ of_manifest_fault f → HasInstallCause (other_place m.slot) a b f → (f ≡ fault.Epoch → ReadMoves 0 a b)
        → (f ≢ fault.Epoch → v.epoch < last_epoch)
        → Leads {T = T} (StandsInSlot m.slot m.other_open v) (IsOldOrNew (install_of grown v)) (IsInstalled (install_of grown v)) (Err f) a b
        → after ≡ cond (stops x) (record store { stopped = true; job = None }) store → Resets {T = U} spelling bytes s change (Err x) after a b
    reset_refused {U = U} fault.Memory x after is_told cause last below leads same =
        not_reset {T = U} change x after b cause (same ∙ ap (λ (y : StoreError). cond (stops y) (record store { stopped = true; job = None }) store) is_told)
    reset_refused {U = U} fault.Epoch x after is_told cause last below leads same =
        not_reset {T = U} change x after b (last refl) (same ∙ ap (λ (y : StoreError). cond (stops y) (record store { stopped = true; job = None }) store) is_told)
    reset_refused {U = U} (fault.Device f) x after is_told cause last below leads same =
        let left = below (λ never. absurd cc) in
        let stopped : after.stopped ≡ true = ap (λ (k : StoreValue). k.stopped) (same ∙ ap (λ (h : Bool). cond h (record store { stopped = true; job = None }) store) (ap stops is_told ∙ slot_writes _ f cause.0)) in
        record {
          meanwhile = either left ((all_leads (Err (fault.Device f)) left leads).meanwhile tied.images);
          done = tt;
          refused = λ runs_on. absurd (let both = sym stopped ∙ runs_on in cc);
        }
    reset_refused fault.NotAStore x after is_told cause last below leads same = absurd cause
    reset_refused fault.AlreadyAStore x after is_told cause last below leads same = absurd cause
    reset_refused (fault.Damaged damage) x after is_told cause last below leads same = absurd cause

-- ---- whatever the device is

-- what is kept of the store at Ok
pub reset_kept : (k store : StoreValue) (settings : Settings) (pages : ℕ) (m : Manifest) → k ≡ store
    → m ≡ installed_manifest (record k.manifest { version = with_numbers settings pages k.manifest.version.epoch k.manifest.version })
    → record k { manifest = m; job = None } ≡ record store { manifest = installed_manifest (record store.manifest { version = with_numbers settings pages store.manifest.version.epoch store.manifest.version }); job = None }
reset_kept k store settings pages m same is =
    ap (λ (n : Manifest). record k { manifest = n; job = None }) is
    ∙ ap (λ (l : StoreValue). record l { manifest = installed_manifest (record l.manifest { version = with_numbers settings pages l.manifest.version.epoch l.manifest.version }); job = None }) same

-- why it is refused

module _ (v : Version) (slot : ℕ) (a b : World) where
  refused_by : (f : ManifestFault) → HasInstallCause slot a b f → (f ≡ fault.Epoch → (v.epoch ≡ last_epoch) × ReadMoves 0 a b) → (f ≢ fault.Epoch → v.epoch < last_epoch)
      → IsResetRefusal false None v.epoch a b (of_manifest_fault f)
  refused_by fault.Memory cause last below = (refl, refl, cause)
  refused_by (fault.Device f) cause last below = (record { running = refl; in_range = refl; left = below (λ never. absurd cc) }, slot_writes slot f cause.0, cause.1)
  refused_by fault.NotAStore cause last below = absurd cause
  refused_by fault.AlreadyAStore cause last below = absurd cause
  refused_by fault.Epoch cause last below = (refl, refl, refl, (last refl).0, (last refl).1)
  refused_by (fault.Damaged damage) cause last below = absurd cause

  pub reset_is_refused : (f : ManifestFault) (x : StoreError) → x ≡ of_manifest_fault f → HasInstallCause slot a b f → (f ≡ fault.Epoch → (v.epoch ≡ last_epoch) × ReadMoves 0 a b)
      → (f ≢ fault.Epoch → v.epoch < last_epoch) → IsResetRefusal false None v.epoch a b x
  reset_is_refused f x is cause last below = subst (IsResetRefusal false None v.epoch a b) (sym is) (refused_by f cause last below)
