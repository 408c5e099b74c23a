-- The tables of a compaction are written, the other log is begun and the version is installed, step by step.
use Rattle.std.proofs.Common.{◌≡◌, ◌≢◌, ◌⊎◌, inl, inr, ◌∙◌, ◌+◌, ◌<◌, ◌≤◌, ℕ, true, List, [], refl, sym, subst, arith}
use Rattle.std.specs.Prelude.{None, Result, Ok, Err, IsOk, MatchResult, OnOk}
use Rattle.std.specs.List.{AllByRecursion}
use Rattle.std.specs.Result.{IsErrAnd}
use Rattle.disk_trait.specs.Image.{Image}
use Rattle.disk_trait.specs.World.{Leads, Meanwhile, Now, Rose, World, WriteMoves}
use Rattle.disk_trait.proofs.Calls.{moves_joined, moves_of_write, moves_wider}
use Rattle.disk_trait.proofs.Moments.{meanwhile_then, meanwhile_weaker, now_at}
use Rattle.disk_trait.specs.declared.fault.DiskFault.{DiskFault}
use Rattle.entry_model.specs.Entries.{Entry}
use Rattle.filter_api.specs.Ranges.{IsRowInRange}
use Rattle.filter_api.specs.Spellings.{Spelling}
use Rattle.image_model.specs.Stands.{StandsForMap}
use Rattle.key_base.specs.Limits.{last_epoch}
use Rattle.level_merge.specs.declared.fault.JobFault.{JobFault}
use Rattle.level_merge.specs.declared.fault.JobFault.TheVariants as job
use Rattle.log_model.specs.Area.{LogIs, Position, start_of}
use Rattle.manifest.proofs.Steps.{raised_is}
use Rattle.manifest.specs.Causes.{HasInstallCause}
use Rattle.manifest.specs.Manifest.{Manifest, StandsInSlot, install_of, other_place}
use Rattle.manifest.specs.declared.fault.ManifestFault.{ManifestFault}
use Rattle.manifest.specs.declared.fault.ManifestFault.TheVariants as fault
use Rattle.manifest_model.specs.Installs.{IsInstalled, IsOldOrNew}
use Rattle.manifest_model.specs.Laws.{IsVersion, RowFits}
use Rattle.manifest_model.specs.Version.{Version, log_page_of}
use Rattle.state_model.specs.State.{State}
use Rattle.state_model.specs.View.{changes_of, state_map}
use Rattle.table_file.specs.Opened.{Opened}
use Rattle.table_model.specs.Tables.{FilterBytes}
use Rattle.store_core.specs.Answers.{is_write}
use Rattle.store_core.specs.Compacting.{AreAllMade, AreCompact, FailsSo, IsCompactCause, IsHeldBy, IsInstalledWhole, IsWritingCause, StandAlone, compacted_manifest, first_compact_table}
use Rattle.store_core.specs.Faults.{of_job_fault, of_manifest_fault}
use Rattle.store_core.specs.Flushing.{installed_manifest, other_log_page}
use Rattle.store_core.specs.StoreValue.{rows_of}
use Rattle.store_core.specs.Tending.{SomeMoves}
use Rattle.store_core.specs.Represents.{RepresentsOn}
use Rattle.store_core.specs.declared.error.StoreError.TheVariants as error
use Rattle.store_core.proofs.CompactLeads as leads
use Rattle.store_core.proofs.CompactPlaces.{all_then_first}
use Rattle.store_core.proofs.CompactSlices.{none_open}
use Rattle.store_core.proofs.CompactVersions.{compacted_is_version}
use Rattle.store_core.proofs.InstallRefusals.{slot_writes}

-- ---- refusals that a `?` passes on

pub passed_so : {T E : Type 0} (r : Result T E) (x : E) (P : T → Type 0) (Q : E → Type 0) → IsErrAnd r (λ (e : E). e ≡ x) → Q x → MatchResult r P Q
passed_so (Ok y) x P Q is why = absurd is
passed_so (Err e) x P Q is why = subst Q (sym is) why

pub writing_cause : (bytes : FilterBytes) (s : State) (a b : World) (f : JobFault) → IsWritingCause bytes s a b f → IsCompactCause bytes s a b (of_job_fault f)
writing_cause bytes s a b job.Memory is = tt
writing_cause bytes s a b (job.Device cause) is = is
writing_cause bytes s a b (job.Damaged damage) is = absurd is
writing_cause bytes s a b (job.Full need gap) is = is

-- ---- what is done to the device

pub moved_write : (bytes at n : ℕ) (a b c : World) → at + n ≤ bytes → SomeMoves bytes a b → WriteMoves at n b c → SomeMoves bytes a c
moved_write bytes at n a b c within first moves =
    (first.0 + 0, moves_joined 0 bytes first.0 0 a b c first.1 (moves_of_write 0 bytes 0 b c (moves_wider at n 0 bytes b c (omega arith) (omega (arith, within)) moves)))

-- ---- the log areas

-- the area that is not in use, and the one that is
pub other_area_of : (v : Version) (area : ℕ) → IsVersion v → other_log_page v ≡ log_page_of area → (here : ℕ) × (v.log_page ≡ log_page_of here) × (area ≢ here) × (area ≤ 1)
other_area_of v area is area_is = elim is.log_page [
  | inl first ↦ (0, first, (λ same. absurd (omega (arith, first, area_is, same))), omega (arith, first, area_is))
  | inr second ↦ (1, second, (λ same. absurd (omega (arith, second, area_is, same))), omega (arith, second, area_is))
]

-- ---- step by step

module _ (spelling : Spelling) (bytes : FilterBytes) (m : Manifest) (opened : List Opened) (entries : List Entry) (s : State) (a b : World) (slot : m.slot ≤ 1) (rows : rows_of opened ≡ m.version.rows)
    (is : IsVersion m.version) (epoch : m.version.epoch < last_epoch) (held : IsHeldBy spelling bytes m opened entries s a) (current : a.leaves a.moment a.seen.held)
    (premise : (entries ≢ []) ⊎ (opened ≢ [])) (stays : Meanwhile (RepresentsOn spelling m opened None s) a b) where
  abbrev Under : Image → Type 0
  Under = RepresentsOn spelling m opened None s

  abbrev pub Map : Image → Type 0
  Map = StandsForMap spelling (state_map s)

  here : Under a.seen.held
  here = held.images a.seen.held current

  some : changes_of s ≢ []
  some = leads.some_entries bytes s held.sound (elim premise [
    | inl entry ↦ inl (λ none. entry (held.memory ∙ none))
    | inr table ↦ inr (λ none. table (none_open spelling a.seen.held opened s.tables here.tables none))
  ])

  nows : Now Under b
  nows = now_at Under a b stays

  -- the tables are not all written, or memory is wanted after them
  pub stays_map : Meanwhile (StandsForMap spelling (state_map s)) a b
  stays_map = meanwhile_weaker Under Map a b stays (leads.under_map spelling m opened slot s)

  pub fails_by : (f : JobFault) → IsWritingCause bytes s a b f → FailsSo spelling bytes m opened s a b (of_job_fault f)
  fails_by f why = record { cause = writing_cause bytes s a b f why; stays = λ _. nows }

  pub fails_wanting : FailsSo spelling bytes m opened s a b error.Memory
  fails_wanting = record { cause = tt; stays = λ _. nows }

  module _ (made : List Opened) (all : AreAllMade spelling bytes s made b) (compact : AreCompact m.version (rows_of made)) (fits : AllByRecursion RowFits (rows_of made))
      (range : AllByRecursion IsRowInRange (rows_of made)) (area : ℕ) (area_is : other_log_page m.version ≡ log_page_of area) where
    new_is : IsVersion (compacted_manifest m (rows_of made)).version
    new_is = compacted_is_version m (rows_of made) is compact fits range

    first : IsOk (first_compact_table bytes s)
    first = all_then_first bytes s.settings s.pages 6 (Rattle.state_model.specs.Taken.taken s) (Rattle.state_model.specs.Changes.compacted_outputs s) all.tables all.placed_so

    at : (other : ℕ) × (m.version.log_page ≡ log_page_of other) × (area ≢ other) × (area ≤ 1)
    at = other_area_of m.version area is area_is

    module _ (c : World) (log_moves : WriteMoves (start_of area) 1 b c) where
      pub log_failed : {T E : Type 0} (result : Result T E) → OnOk result (Now (LogIs area []) c) → Meanwhile (StandsForMap spelling (state_map s)) a c
      log_failed result log = meanwhile_then Map a b c stays_map
          (leads.log_failed spelling bytes m opened slot rows s held.no_job held.none_kept held.sound is epoch here.ready.named.epoch some made all.tables all.placed_so area at.0 at.3 area_is at.1 at.2 new_is b c nows all.held log_moves
          result log)

      pub log_fails_so : (f : DiskFault) → is_write f.op ≡ true → Rose a.seen.write_faults c.seen.write_faults → FailsSo spelling bytes m opened s a c (error.Device f)
      log_fails_so f writes rose = record { cause = inr (writes, rose, first); stays = λ none. absurd (let both = sym writes ∙ none in cc) }

      module _ (log : Now (LogIs area []) c) (d : World) (moves : WriteMoves (other_place m.slot) 131072 c d) where
        pub install_meanwhile : {T E : Type 0} (result : Result T E)
            → Leads (StandsInSlot m.slot m.other_open m.version) (IsOldOrNew (install_of (compacted_manifest m (rows_of made)) m.version)) (IsInstalled (install_of (compacted_manifest m (rows_of made)) m.version)) result c d
            → Meanwhile (StandsForMap spelling (state_map s)) a d
        install_meanwhile result led = meanwhile_then Map a b d stays_map
            (leads.install_meanwhile spelling bytes m opened slot rows s held.no_job held.none_kept held.sound is epoch here.ready.named.epoch some made all.tables all.placed_so area at.0 at.3 area_is at.1 at.2 new_is b c nows all.held
            log_moves log d moves result led)

        pub install_done : {T E : Type 0} (x : T)
            → Leads {E = E} (StandsInSlot m.slot m.other_open m.version) (IsOldOrNew (install_of (compacted_manifest m (rows_of made)) m.version)) (IsInstalled (install_of (compacted_manifest m (rows_of made)) m.version)) (Ok x) c d
            → StandAlone spelling bytes s (installed_manifest (compacted_manifest m (rows_of made))) made d
        install_done x led =
            leads.install_done spelling bytes m opened slot rows s held.no_job held.none_kept held.sound is epoch here.ready.named.epoch some made all.tables all.placed_so area at.0 at.3 area_is at.1 at.2 new_is b c nows all.held
            log_moves log d moves x led

        pub install_fails_so : (f : ManifestFault) → HasInstallCause (other_place m.slot) c d f → (f ≡ fault.Epoch → ⊥) → (Rose c.seen.write_faults d.seen.write_faults → Rose a.seen.write_faults d.seen.write_faults)
            → FailsSo spelling bytes m opened s a d (of_manifest_fault f)
        install_fails_so fault.Memory cause other later = record {
          cause = tt;
          stays = λ _. leads.install_unread spelling bytes m opened slot rows s held.no_job held.none_kept held.sound is epoch here.ready.named.epoch some made all.tables all.placed_so area at.0 at.3 area_is at.1 at.2 new_is b c nows
              all.held log_moves log d moves cause;
        }
        install_fails_so (fault.Device f) cause other later =
            let writes = slot_writes (other_place m.slot) f cause.0 in
            record { cause = inr (writes, later cause.1, first); stays = λ none. absurd (let both = sym writes ∙ none in cc) }
        install_fails_so fault.NotAStore cause other later = absurd cause
        install_fails_so fault.AlreadyAStore cause other later = absurd cause
        install_fails_so fault.Epoch cause other later = absurd (other refl)
        install_fails_so (fault.Damaged damage) cause other later = absurd cause

-- ---- whatever the device is

pub installed_whole : (m new : Manifest) (made : List Opened) (log : Position) → IsVersion m.version → AreCompact m.version (rows_of made) → AllByRecursion RowFits (rows_of made)
    → AllByRecursion IsRowInRange (rows_of made) → m.version.epoch < last_epoch
    → new ≡ installed_manifest (compacted_manifest m (rows_of made)) → other_log_page m.version ≡ log_page_of log.area → log.filled ≡ 0 → IsInstalledWhole m new made log
installed_whole m new made log is compact fits range epoch new_is area begun =
    subst (λ (n : Manifest). IsInstalledWhole m n made log) (sym new_is) (record {
      version = raised_is (compacted_manifest m (rows_of made)).version (compacted_is_version m (rows_of made) is compact fits range) (λ last. absurd (omega (arith, last, epoch)));
      slot = omega arith;
      rows = refl;
      area = area;
      begun = begun;
      pages = refl;
    })
