-- The table of a plan is written, the other log is begun, and the version is installed: what a crash leaves meanwhile.
use Rattle.std.proofs.Common.{◌≡◌, ◌⊎◌, inl, inr, ◌≤◌, ◌<◌, ◌+◌, ◌-◌, ◌*◌, ◌∙◌, ℕ, false, true, List, [], ◌∷◌, length, refl, sym, ap, ap₂, subst, arith}
use Rattle.std.specs.Prelude.{◌≢◌, Some, Result, Ok, Err, IsErr, IfErr, OnOk, nat_lt, ◌==◌}
use Rattle.std.specs.List.{AllByRecursion}
use Rattle.std.specs.Result.{IsErrAnd}
use Rattle.std.proofs.lemmas.Bool.{ne_eqb}
use Rattle.std.proofs.lemmas.List.{length-map}
use Rattle.block_model.specs.Pages.{index_length, pages_for}
use Rattle.block_model.specs.Places.{byte_of_page}
use Rattle.byte_fields.specs.declared.parts.Row.{Row}
use Rattle.disk_trait.specs.Image.{Image, Same, Torn}
use Rattle.disk_trait.specs.World.{Leads, Meanwhile, Now, ReadMoves, Rose, World, WriteMoves}
use Rattle.disk_trait.specs.declared.fault.DiskFault.{DiskFault}
use Rattle.disk_trait.proofs.Calls.{leads_around, leads_framed, leads_then, leads_weaker, on_ok_two, reads_keep}
use Rattle.disk_trait.proofs.Moments.{in_call, meanwhile_then, meanwhile_weaker}
use Rattle.entry_model.specs.Entries.{Entry}
use Rattle.range_model.specs.Sources.{Change, Source, alone, source_of}
use Rattle.extent_model.proofs.Free.{gap_is_free}
use Rattle.extent_model.proofs.Lists.{all_pairs, pairs_of}
use Rattle.extent_model.specs.Extents.{AreApart, Extent, IsOnDevice}
use Rattle.extent_model.specs.Gaps.{first_gap}
use Rattle.filter_api.specs.Spellings.{Spelling}
use Rattle.filter_api.specs.declared.settings.Settings.{Settings}
use Rattle.filter_model.specs.Leaves.{Leaf}
use Rattle.image_model.proofs.Frames.{free_apart, named_behind_slots, other_log_apart, unnamed_behind}
use Rattle.image_model.proofs.Installs.{installed_ready}
use Rattle.image_model.proofs.Placed.{behind_logs}
use Rattle.image_model.specs.Stands.{IsNamedBy, IsReady, StandsForMap, UnnamedStand, as_shown}
use Rattle.key_base.specs.Limits.{last_epoch}
use Rattle.log_model.proofs.Logs.{log_kept}
use Rattle.log_model.specs.Area.{LogIs, start_of}
use Rattle.manifest.proofs.Steps.{may_install, raised_is}
use Rattle.manifest.specs.Causes.{HasInstallCause}
use Rattle.manifest.specs.Manifest.{Manifest, StandsInSlot, install_of, other_place, place_of, raised}
use Rattle.manifest.specs.declared.fault.ManifestFault.{ManifestFault}
use Rattle.manifest.specs.declared.fault.ManifestFault.TheVariants as fault
use Rattle.manifest_model.specs.Installs.{Install, IsInstalled, IsOldOrNew, MayInstall}
use Rattle.manifest_model.specs.Laws.{IsVersion}
use Rattle.manifest_model.specs.Version.{Version, log_page_of}
use Rattle.state_model.proofs.Kept.{flushed_keeps}
use Rattle.state_model.specs.Changes.{flushed}
use Rattle.state_model.specs.Sound.{StandsBefore}
use Rattle.state_model.specs.State.{State}
use Rattle.state_model.specs.Taken.{taken}
use Rattle.state_model.specs.View.{state_map}
use Rattle.table_file.specs.Building.{Built, source_in}
use Rattle.table_file.specs.Opened.{Opened}
use Rattle.table_file.specs.Writing.{IsWriteOf, StandsWith, made_row}
use Rattle.table_model.proofs.OneTable.{one_table}
use Rattle.table_model.specs.Images.{IsTableOf}
use Rattle.table_model.specs.Laws.{IsApartFromRow}
use Rattle.table_model.specs.Tables.{FilterBytes, Table, filter_bytes_of, source_pages, table_from, table_of, table_pages}
use Rattle.store_core.specs.Answers.{is_write}
use Rattle.store_core.specs.Flushing.{FlushedTo, IsFlushFault, IsPlan, flushed_at, installed_manifest, next_manifest, opened_of, other_log_page}
use Rattle.store_core.specs.StoreValue.{IsConsistent, StoreValue}
use Rattle.level_merge.specs.FollowLaws.{FlushedIsFollowed, OtherImageIsFollowed}
use Rattle.store_search.specs.TablesAgree.{TableAgrees, TablesAgree}
use Rattle.store_core.specs.Running.{RunsAs, extents_with, outputs_in}
use Rattle.store_core.specs.Represents.{Represents, RepresentsOn}
use Rattle.store_core.proofs.Agreed.{Agree, tied_agree}
use Rattle.store_core.proofs.Flushed.{flushed_done}
use Rattle.store_core.proofs.Frames.{held_kept, runs_kept, under_kept, under_stands}
use Rattle.store_core.proofs.Runs.{runs_behind, unnamed_apart}

-- each table takes a page, that of its index
pub some_pages : (filter_bytes : FilterBytes) (settings : Settings) (entries : List Entry) → 0 < table_pages filter_bytes settings entries
unfolding index_length pages_for
some_pages filter_bytes settings entries = omega arith

below_last : (n : ℕ) → n < last_epoch → (n == last_epoch) ≡ false
unfolding last_epoch
below_last n below = ne_eqb n 18446744073709551615 (λ is. absurd (omega (arith, below, is)))

if_err : {T E : Type 0} (P Q : E → Type 0) (r : Result T E) → ((e : E) → P e → Q e) → IfErr r P → IfErr r Q
if_err P Q (Ok v) weaker p = tt
if_err P Q (Err e) weaker p = weaker e p

not_ok : {T E : Type 0} (R : Type 0) (r : Result T E) → IsErr r → OnOk r R
not_ok R (Ok v) failed = absurd cc
not_ok R (Err e) failed = tt

-- what holds where reads begin holds meanwhile
reads_meanwhile : (P : Image → Type 0) (n : ℕ) (a b : World) → ReadMoves n a b → Now P a → Meanwhile P a b
reads_meanwhile P n a b moves here = in_call P Same a b here moves.time (λ was image left same. subst P (sym same) (here was left))

-- ---- faults of the device

pub no_want : {T : Type 0} (f : DiskFault) (r : Result T ManifestFault) → IsErrAnd r (λ why. why ≡ fault.Device f) → IfErr r (λ why. why ≢ fault.Memory)
no_want f (Ok v) is = tt
no_want f (Err e) is = λ memory. let never = sym is ∙ memory in absurd cc

pub still_wanted : {T : Type 0} (f : ManifestFault) (slot : ℕ) (r : Result T ManifestFault) (old new : World) → IsErrAnd r (λ why. why ≡ f) → HasInstallCause slot old new f
    → IfErr r (λ why. why ≡ fault.Memory → ReadMoves 0 old new)
still_wanted f slot (Ok v) old new is cause = tt
still_wanted f slot (Err e) old new is cause = λ memory. subst (HasInstallCause slot old new) (sym is ∙ memory) cause

pub write_op : (first second third : ℕ) (f : DiskFault) → IsWriteOf first second third f → is_write f.op ≡ true
write_op first second third f (inl is) = ap (λ (x : DiskFault). is_write x.op) is
write_op first second third f (inr (inl is)) = ap (λ (x : DiskFault). is_write x.op) is
write_op first second third f (inr (inr (inl is))) = ap (λ (x : DiskFault). is_write x.op) is
write_op first second third f (inr (inr (inr is))) = ap (λ (x : DiskFault). is_write x.op) is

pub device_cause : {T : Type 0} (f : DiskFault) (r : Result T ManifestFault) (old new : World) → IsErrAnd r (λ why. why ≡ fault.Device f) → is_write f.op ≡ true
    → Rose old.seen.write_faults new.seen.write_faults → IfErr r (IsFlushFault old new)
device_cause f (Ok v) old new is writes rose = tt
device_cause f (Err e) old new is writes rose = subst (IsFlushFault old new) (sym is) (writes, rose)

never_memory : {T : Type 0} (P : Type 0) (r : Result T ManifestFault) → IfErr r (λ why. why ≢ fault.Memory) → IfErr r (λ why. why ≡ fault.Memory → P)
never_memory P r other = if_err (λ why. why ≢ fault.Memory) (λ why. why ≡ fault.Memory → P) r (λ why never is. absurd (never is)) other

-- a table of level 0 is before all
pub first_of_all : (t : Table) (tables : List Table) → t.level ≡ 0 → AllByRecursion (StandsBefore t) tables
first_of_all t [] zero_level = tt
first_of_all t (u ∷ more) zero_level = (
  elim (nat_lt 0 u.level) as (λ b. nat_lt 0 u.level ≡ b → StandsBefore t u) [
    | true ↦ λ e. inl (grind arith)
    | false ↦ λ e. inr (grind arith, inl zero_level)
  ] refl,
  first_of_all t more zero_level,
)

-- of a state with another log, whose memory entries are what is flushed
module _ (image_law : OtherImageIsFollowed) (flush_law : FlushedIsFollowed) (spelling : Spelling) (built_cutoff : ℕ → List Leaf → ℕ) (store : StoreValue) (s : State) (records : List Change) (parts : Built) (row : Row) (next : Manifest)
    (whole : IsConsistent store) (plan : IsPlan spelling built_cutoff store.manifest (outputs_in store.job) (source_of records).entries parts row next) (no_range : source_of records ≡ alone (source_of records).entries) where
  abbrev over : State
  over = record s { log = records }

  abbrev filter_bytes : FilterBytes
  filter_bytes = filter_bytes_of spelling built_cutoff

  abbrev m : Manifest
  m = store.manifest

  abbrev v : Version
  v = store.manifest.version

  abbrev need : ℕ
  need = source_pages (filter_bytes_of spelling built_cutoff) parts.settings (source_in parts)

  -- the table that is made, the state and the manifest after the flush
  abbrev made : Table
  made = table_of (filter_bytes_of spelling built_cutoff) s.settings 0 row.first_page (source_of records).entries

  abbrev to : State
  to = flushed_at (filter_bytes_of spelling built_cutoff) row.first_page (record s { log = records })

  abbrev new : Manifest
  new = next_manifest store.manifest row

  abbrev i : Install
  i = install_of (next_manifest store.manifest row) store.manifest.version

  abbrev Under : Image → Type 0
  Under = RepresentsOn spelling store.manifest store.tables store.job s

  -- the map of the state, or that with what is flushed
  abbrev Either : Image → Type 0
  Either image = StandsForMap spelling (state_map s) image ⊎ StandsForMap spelling (state_map over) image

  abbrev Agrees : Image → Type 0
  Agrees = TableAgrees spelling (opened_of built_cutoff parts row) made

  -- the table as the call that writes it says it
  abbrev IsThere : Image → Type 0
  IsThere = IsTableOf spelling (made_row spelling built_cutoff parts 0 row.first_page)
      (table_from (filter_bytes_of spelling built_cutoff) parts.settings 0 row.first_page (source_in parts))

  abbrev IsOpenThere : Image → Type 0
  IsOpenThere = StandsWith spelling (opened_of built_cutoff parts (made_row spelling built_cutoff parts 0 row.first_page)) parts.entries

  module _ (a : World) (tied : Represents spelling (filter_bytes_of spelling built_cutoff) store s a) (current : a.leaves a.moment a.seen.held) where
    agrees : Agree v (outputs_in store.job) s
    agrees = tied_agree spelling (filter_bytes_of spelling built_cutoff) store s a current tied

    settings_are : parts.settings ≡ s.settings
    settings_are = ap (λ (b : Built). b.settings) plan.parts_are ∙ sym agrees.settings

    source_is : source_in parts ≡ alone (source_of records).entries
    source_is = ap source_in plan.parts_are

    few : length s.tables < 1024
    few = omega (arith, plan.few, agrees.many)

    -- the pages of the table are free
    gap : first_gap s.pages (taken s) (table_pages (filter_bytes_of spelling built_cutoff) s.settings (source_of records).entries) ≡ Some row.first_page
    gap =
        ap₂ (λ (n : ℕ) (es : List Extent). first_gap n es (table_pages filter_bytes s.settings (source_of records).entries)) agrees.pages agrees.taken_is
        ∙ ap (λ (set : Settings). first_gap v.pages (extents_with v (outputs_in store.job)) (table_pages filter_bytes set (source_of records).entries)) agrees.settings
        ∙ plan.place

    need_is : table_pages (filter_bytes_of spelling built_cutoff) s.settings (source_of records).entries ≡ need
    need_is = ap₂ (λ (set : Settings) (source : Source). source_pages filter_bytes set source) (sym settings_are) (sym source_is)

    free : IsOnDevice s.pages (row.first_page, need) × AllByRecursion (AreApart (row.first_page, need)) (taken s)
    free =
        gap_is_free s.pages (taken s) need row.first_page (omega (arith, need_is, some_pages filter_bytes s.settings (source_of records).entries)) tied.sound.on_device
        (subst (λ (n : ℕ). first_gap s.pages (taken s) n ≡ Some row.first_page) need_is gap)

    from : 192 ≤ row.first_page
    from = free.0.from

    -- ---- the table

    held_there : (image : Image) → IsThere image → IsOpenThere image → Agrees image
    held_there image is stands =
        let first : TableAgrees spelling (opened_of built_cutoff parts (made_row spelling built_cutoff parts 0 row.first_page))
        (table_from filter_bytes parts.settings 0 row.first_page (source_in parts)) image =
        record {
          blocks = stands.0;
          stands = stands.1;
          table_is = one_table spelling _ _ _ image is (stands.0, stands.1.at, refl);
        } in
        subst (λ (source : Source). TableAgrees spelling (opened_of built_cutoff parts row) (table_from filter_bytes s.settings 0 row.first_page source) image) source_is
        (subst (λ (set : Settings). TableAgrees spelling (opened_of built_cutoff parts row) (table_from filter_bytes set 0 row.first_page (source_in parts)) image) settings_are
        (subst (λ (r : Row). TableAgrees spelling (opened_of built_cutoff parts r) (table_from filter_bytes parts.settings 0 row.first_page (source_in parts)) image) (sym plan.row_is) first))

    held_apart : (at n : ℕ) (f g : Image) → at + n ≤ 4096 * row.first_page → Torn at n f g → Agrees f → Agrees g
    held_apart at n f g before torn held =
        (held_kept spelling at n f g torn (opened_of built_cutoff parts row ∷ []) (made ∷ []) (inr (omega (arith, before)), tt) (held, tt)).0

    table_keeps : (f g : Image) → Under f → Torn (4096 * row.first_page) (4096 * need) f g → Under g
    table_keeps f g u torn =
        under_kept spelling m store.tables store.job whole.slot whole.rows image_law s (4096 * row.first_page) (4096 * need) f g
        (free_apart spelling (place_of m.slot) (other_place m.slot) m.other_open v s row.first_page need f from free.1 u.ready) torn u

    pub table_leads : {T E : Type 0} (result : Result T E) (b : World) → WriteMoves (byte_of_page row.first_page) (4096 * need) a b → OnOk result (Now IsThere b)
        → OnOk result (Now IsOpenThere b) → Leads Under Under (λ image. Under image × Agrees image) result a b
    table_leads result b moves is stands =
        leads_around Under Agrees (4096 * row.first_page) (4096 * need) result a b table_keeps moves.time
        (on_ok_two (Now IsThere b) (Now IsOpenThere b) (Now Agrees b) result (λ t o image here. held_there image (t image here) (o image here)) is stands)

    pub no_table : {T U E : Type 0} (first : Result T E) (result : Result U ManifestFault) (b : World) → WriteMoves (byte_of_page row.first_page) (4096 * need) a b
        → OnOk first (Now IsThere b) → OnOk first (Now IsOpenThere b) → IsErr result → IfErr result (λ why. why ≢ fault.Memory)
        → FlushedTo spelling built_cutoff store s over parts row next result a b
    no_table first result b moves is stands failed other_cause = record {
      meanwhile = meanwhile_weaker Under Either a b ((table_leads first b moves is stands).meanwhile tied.images)
          (λ image under. inl (under_stands spelling store.manifest store.tables store.job whole.slot whole.rows s image under));
      done = not_ok _ result failed;
      wanted = never_memory (Now Under b) result other_cause;
      unmoved = never_memory (Meanwhile (StandsForMap spelling (state_map s)) a b) result other_cause;
    }

    -- ---- the log

    module _ (area : ℕ) (area_is : next.version.log_page ≡ log_page_of area) (small : area ≤ 1) where
      page_is : other_log_page v ≡ log_page_of area
      page_is = sym (ap (λ (n : Manifest). n.version.log_page) plan.next_is) ∙ area_is

      other : area ≢ store.log.area
      other same = absurd (omega (arith, page_is, whole.area, same))

      log_keeps : (f g : Image) → Under f × Agrees f → Torn (start_of area) 1 f g → Under g × Agrees g
      log_keeps f g both torn = (
        under_kept spelling m store.tables store.job whole.slot whole.rows image_law s (start_of area) 1 f g
            (other_log_apart spelling (place_of m.slot) (other_place m.slot) m.other_open v s store.log.area area (start_of area) 1 f tied.sound.on_device whole.area other small
            (omega arith) (omega arith) both.0.ready) torn both.0,
        held_apart (start_of area) 1 f g (omega (arith, small, from)) torn both.1,
      )

      pub log_leads : {T E : Type 0} (result : Result T E) (b c : World) → WriteMoves (start_of area) 1 b c → OnOk result (Now (LogIs area []) c)
          → Leads (λ image. Under image × Agrees image) (λ image. Under image × Agrees image) (λ image. (Under image × Agrees image) × LogIs area [] image) result b c
      log_leads result b c moves log =
          leads_around (λ image. Under image × Agrees image) (LogIs area []) (start_of area) 1 result b c log_keeps moves.time log

      -- ---- the version

      -- all that lies after the slots
      abbrev Behind : Image → Type 0
      Behind image = IsNamedBy spelling v (as_shown s) image × TablesAgree spelling store.tables s.tables image × Agrees image × LogIs area [] image × UnnamedStand spelling s image
          × RunsAs spelling store.tables store.job s s.job image

      slots_keep : (f g : Image) → Behind f → Torn (other_place m.slot) 131072 f g → Behind g
      slots_keep f g here torn =
          let before : other_place m.slot + 131072 ≤ 262144 = omega arith in
          let tables = held_kept spelling (other_place m.slot) 131072 f g torn store.tables s.tables
          (subst (AllByRecursion (IsApartFromRow (other_place m.slot) 131072)) (sym whole.rows) (behind_logs v (other_place m.slot) 131072 whole.version (omega (arith, before)))) here.1 in (
            named_behind_slots spelling v (as_shown s) (other_place m.slot) 131072 f g whole.version before torn here.0,
            tables,
            held_apart (other_place m.slot) 131072 f g (omega (arith, before, from)) torn here.2,
            log_kept area [] (other_place m.slot) 131072 f g (inr (omega (arith, before))) torn here.3,
            unnamed_behind spelling s (other_place m.slot) 131072 f g tied.sound.on_device (omega (arith, before)) torn here.4,
            runs_kept image_law spelling s (other_place m.slot) 131072 f g torn store.tables here.1 tables store.job s.job
                (unnamed_apart s (other_place m.slot) 131072 tied.sound.on_device (omega (arith, before))) here.5,
          )

      is_flushed : (image : Image) → Agrees image → flushed (filter_bytes_of spelling built_cutoff) over ≡ Ok to
      is_flushed image held =
          let some : 1 ≤ length (source_of records).entries = omega (arith, held.stands.at.table.some, ap (λ (t : Table). length t.entries) held.table_is) in
          flushed_done filter_bytes over (λ none. absurd (omega (arith, some, ap length none))) few no_range row.first_page gap (below_last s.epoch (omega (arith, plan.epoch, agrees.epoch)))

      new_named : (image : Image) → IsNamedBy spelling v (as_shown s) image → Agrees image → LogIs area [] image → IsNamedBy spelling (raised new.version) (as_shown to) image
      new_named image named held log = record {
        settings = named.settings;
        pages = named.pages;
        epoch = ap (λ (n : ℕ). n + 1) named.epoch;
        tables = ((held.blocks, held.stands.at, held.table_is), named.tables);
        order = all_pairs StandsBefore (made ∷ s.tables) (first_of_all made s.tables refl, pairs_of StandsBefore s.tables tied.sound.order);
        area = area;
        area_is = page_is;
        log = log;
        entries = [];
        sets = refl;
        no_ranges = (refl, named.no_ranges);
        no_job = refl;
        none_kept = refl;
      }

      maps : (image : Image) → Behind image × IsOldOrNew i image → Either image
      maps image (here, inl old) = inl (s, (v, record { version_is = old; named = here.0 }), refl)
      maps image (here, inr new_there) =
          inr (to, (raised new.version, record { version_is = new_there; named = new_named image here.0 here.2 here.3 }), flushed_keeps filter_bytes over to (is_flushed image here.2))

      many : length store.tables ≡ length s.tables
      many = sym (length-map store.tables (λ (t : Opened). t.row)) ∙ ap (λ (rs : List Row). length rs) whole.rows ∙ sym agrees.many

      runs_then : (image : Image) → RunsAs spelling store.tables store.job s s.job image → RunsAs spelling (opened_of built_cutoff parts row ∷ store.tables) store.job to s.job image
      runs_then image runs = runs_behind flush_law spelling v s to store.tables (opened_of built_cutoff parts row) made image store.job s.job refl whole.job many refl refl runs

      ends : MayInstall i → (image : Image) → Behind image × IsInstalled i image
          → RepresentsOn spelling (installed_manifest new) (opened_of built_cutoff parts row ∷ store.tables) store.job to image
      ends may image (here, is) =
          let back : 1 - (1 - m.slot) ≡ m.slot = omega (arith, whole.slot) in
          let ready : IsReady spelling (other_place m.slot) (place_of m.slot) true (raised new.version) to image =
          installed_ready spelling i to image may is (new_named image here.0 here.2 here.3) here.4 in
          record {
            ready = subst (λ (n : ℕ). IsReady spelling (other_place m.slot) (place_of n) true (raised new.version) to image) (sym back) ready;
            tables = (here.2, here.1);
            job = runs_then image here.5;
          }

      pub install_leads : {T E : Type 0} (result : Result T E) (c d : World) → MayInstall i → WriteMoves (other_place next.slot) 131072 c d
          → Leads (StandsInSlot next.slot next.other_open v) (IsOldOrNew (install_of next v)) (IsInstalled (install_of next v)) result c d
          → Leads (λ image. (Under image × Agrees image) × LogIs area [] image) Either
          (RepresentsOn spelling (installed_manifest next) (opened_of built_cutoff parts row ∷ store.tables) store.job to) result c d
      install_leads result c d may moves leads =
          let moved : WriteMoves (other_place m.slot) 131072 c d = subst (λ (n : Manifest). WriteMoves (other_place n.slot) 131072 c d) plan.next_is moves in
          let own : Leads (StandsInSlot m.slot m.other_open v) (IsOldOrNew i) (IsInstalled i) result c d =
          subst (λ (n : Manifest). Leads (StandsInSlot n.slot n.other_open v) (IsOldOrNew (install_of n v)) (IsInstalled (install_of n v)) result c d) plan.next_is leads in
          subst (λ (n : Manifest). Leads (λ image. (Under image × Agrees image) × LogIs area [] image) Either
          (RepresentsOn spelling (installed_manifest n) (opened_of built_cutoff parts row ∷ store.tables) store.job to) result c d) (sym plan.next_is)
          (leads_weaker (λ image. Behind image × StandsInSlot m.slot m.other_open v image) (λ image. Behind image × IsOldOrNew i image) (λ image. Behind image × IsInstalled i image)
          (λ image. (Under image × Agrees image) × LogIs area [] image) Either
          (RepresentsOn spelling (installed_manifest new) (opened_of built_cutoff parts row ∷ store.tables) store.job to) result c d
          (leads_framed Behind (StandsInSlot m.slot m.other_open v) (IsOldOrNew i) (IsInstalled i) (other_place m.slot) 131072 result c d slots_keep moved.time own)
          (λ image all. (
            (all.0.0.ready.named, all.0.0.tables, all.0.1, all.1, all.0.0.ready.unnamed, all.0.0.job),
            record { current = all.0.0.ready.current; gate = all.0.0.ready.gate },
          ))
          maps (ends may))

      -- ---- all of it

      abbrev Map : Image → Type 0
      Map = StandsForMap spelling (state_map s)

      abbrev Started : Image → Type 0
      Started image = (Under image × Agrees image) × LogIs area [] image

      abbrev Done : Image → Type 0
      Done = RepresentsOn spelling (installed_manifest next) (opened_of built_cutoff parts row ∷ store.tables) store.job to

      to_map : (image : Image) → Under image → Map image
      to_map = under_stands spelling store.manifest store.tables store.job whole.slot whole.rows s

      may : IsVersion next.version → MayInstall i
      may sound =
          let kept : IsVersion new.version = subst (λ (n : Manifest). IsVersion n.version) plan.next_is sound in
          may_install new v whole.slot (raised_is new.version kept (λ last. absurd (omega (arith, last, plan.epoch)))) refl

      -- what the calls before the install did
      module _ (b c : World) (table_moves : WriteMoves (byte_of_page row.first_page) (4096 * need) a b) (table_is : Now IsThere b) (table_opens : Now IsOpenThere b)
          (log_moves : WriteMoves (start_of area) 1 b c) where
        begun : {T E : Type 0} (result : Result T E) → OnOk result (Now (LogIs area []) c) → Leads Under Map Started result a c
        begun result log =
            leads_then {T = Unit {0}} {E = Unit {0}} Under Under (λ image. Under image × Agrees image) Map Started tt result a b c to_map
            (table_leads {T = Unit {0}} {E = Unit {0}} (Ok tt) b table_moves table_is table_opens)
            (leads_weaker (λ image. Under image × Agrees image) (λ image. Under image × Agrees image) Started (λ image. Under image × Agrees image) Map Started result b c
            (log_leads result b c log_moves log) (λ f both. both) (λ f both. to_map f both.0) (λ f all. all))

        pub no_log : {T U E : Type 0} (first : Result T E) (result : Result U ManifestFault) → OnOk first (Now (LogIs area []) c) → IsErr result → IfErr result (λ why. why ≢ fault.Memory)
            → FlushedTo spelling built_cutoff store s over parts row next result a c
        no_log first result log failed other_cause = record {
          meanwhile = meanwhile_weaker Map Either a c ((begun first log).meanwhile tied.images) (λ image map. inl map);
          done = not_ok _ result failed;
          wanted = never_memory (Now Under c) result other_cause;
          unmoved = never_memory (Meanwhile Map a c) result other_cause;
        }

        module _ (d : World) (log : Now (LogIs area []) c) (sound : IsVersion next.version) (moves : WriteMoves (other_place next.slot) 131072 c d) where
          all_leads : {T E : Type 0} (first : Result T E) → Leads (StandsInSlot next.slot next.other_open v) (IsOldOrNew (install_of next v)) (IsInstalled (install_of next v)) first c d
              → Leads Under Either Done first a d
          all_leads first leads =
              leads_then {T = Unit {0}} {E = Unit {0}} Under Map Started Either Done tt first a c d (λ f map. inl map) (begun {T = Unit {0}} {E = Unit {0}} (Ok tt) log) (install_leads first c d (may sound) moves leads)

          -- where no call was made after them
          still_map : ReadMoves 0 c d → Meanwhile Map a d
          still_map reads =
              let before = begun {T = Unit {0}} {E = Unit {0}} (Ok tt) log in
              meanwhile_then Map a c d (before.meanwhile tied.images) (reads_meanwhile Map 0 c d reads (λ image left. to_map image (before.after tied.images image left).0.0))

          pub no_install : {T U E : Type 0} (first : Result T E) (result : Result U ManifestFault)
              → Leads (StandsInSlot next.slot next.other_open v) (IsOldOrNew (install_of next v)) (IsInstalled (install_of next v)) first c d
              → IsErr result → IfErr result (λ why. why ≡ fault.Memory → ReadMoves 0 c d) → FlushedTo spelling built_cutoff store s over parts row next result a d
          no_install first result leads failed still = record {
            meanwhile = (all_leads first leads).meanwhile tied.images;
            done = not_ok _ result failed;
            wanted = if_err (λ why. why ≡ fault.Memory → ReadMoves 0 c d) (λ why. why ≡ fault.Memory → Now Under d) result
                (λ why reads is image here. (reads_keep Started 0 c d (reads is) ((begun {T = Unit {0}} {E = Unit {0}} (Ok tt) log).after tied.images) image here).0.0) still;
            unmoved = if_err (λ why. why ≡ fault.Memory → ReadMoves 0 c d) (λ why. why ≡ fault.Memory → Meanwhile Map a d) result
                (λ why reads is. still_map (reads is)) still;
          }

          pub installed : {T U E : Type 0} (x : T) (y : U) → Leads {E = E} (StandsInSlot next.slot next.other_open v) (IsOldOrNew (install_of next v)) (IsInstalled (install_of next v)) (Ok x) c d
              → FlushedTo spelling built_cutoff store s over parts row next (Ok y) a d
          installed x y leads =
              let all = all_leads (Ok x) leads in
              record { meanwhile = all.meanwhile tied.images; done = all.after tied.images; wanted = tt; unmoved = tt }
