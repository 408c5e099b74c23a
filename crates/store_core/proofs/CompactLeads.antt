-- The other log is begun, and the version is installed in which the tables of a compaction are alone.
use Rattle.std.proofs.Common.{◌≡◌, ◌≢◌, ◌⊎◌, inl, inr, ◌∙◌, ◌-◌, ◌<◌, ◌≤◌, ◌++◌, ℕ, Bool, true, false, cond, List, [], ◌∷◌, map, refl, sym, ap, subst, arith}
use Rattle.std.specs.Prelude.{Option, None, Result, Ok, Err, OnOk, ◌==◌}
use Rattle.std.specs.List.{AllByRecursion}
use Rattle.std.proofs.lemmas.Bool.{ne_eqb}
use Rattle.disk_trait.specs.Image.{Image, Torn}
use Rattle.disk_trait.specs.World.{Leads, Meanwhile, Now, ReadMoves, World, WriteMoves}
use Rattle.disk_trait.proofs.Calls.{leads_around, reads_keep}
use Rattle.disk_trait.proofs.Moments.{meanwhile_then, meanwhile_weaker}
use Rattle.filter_api.specs.Spellings.{Spelling}
use Rattle.image_model.proofs.Frames.{other_log_apart, ready_is_state}
use Rattle.image_model.proofs.Placed.{behind_logs}
use Rattle.image_model.specs.Stands.{IsReady, StandsForMap}
use Rattle.key_base.specs.Limits.{last_epoch}
use Rattle.store_search.specs.TablesAgree.{TablesAgree}
use Rattle.log_model.specs.Area.{LogIs, start_of}
use Rattle.manifest.specs.Manifest.{Manifest, StandsInSlot, install_of, other_place, place_of, raised}
use Rattle.manifest_model.specs.Installs.{IsInstalled, IsOldOrNew}
use Rattle.manifest_model.specs.Laws.{IsVersion}
use Rattle.manifest_model.specs.Version.{log_page_of}
use Rattle.state_model.proofs.EmptyStores.{without_entries}
use Rattle.state_model.proofs.Kept.{compacted_keeps}
use Rattle.state_model.proofs.NoRanges.{placed_no_range}
use Rattle.state_model.proofs.SoundCompaction.{compacted_sound}
use Rattle.state_model.proofs.WithoutRanges.{compacted_alone}
use Rattle.range_model.specs.Sources.{Change, source_of}
use Rattle.state_model.specs.Changes.{compact_placed, compacted, compacted_outputs, compacted_with, live_entries}
use Rattle.state_model.specs.Merges.{outputs_for, placed}
use Rattle.state_model.specs.Sound.{IsSound}
use Rattle.state_model.specs.State.{Job, State, without_job, written_by}
use Rattle.state_model.specs.Taken.{extent_of, taken}
use Rattle.state_model.specs.View.{changes_of, memory, state_map}
use Rattle.state_model.specs.WithoutRanges.{HasNoRange}
use Rattle.line_model.specs.Replies.{LastEpoch}
use Rattle.table_file.specs.Opened.{Opened}
use Rattle.table_model.specs.Tables.{FilterBytes, Table}
use Rattle.store_core.specs.Compacting.{StandAlone, compact_tables, compacted_into, compacted_manifest}
use Rattle.store_core.specs.Flushing.{installed_manifest, other_log_page}
use Rattle.store_core.specs.StoreValue.{rows_of}
use Rattle.store_core.specs.Represents.{RepresentsOn}
use Rattle.store_core.proofs.CompactSlices.{under_kept}
use Rattle.store_core.proofs.Frames.{are_slots, held_kept}
use Rattle.store_core.proofs.InstallLeads.{AfterInstall, Before, install_leads}

-- ---- the state after it

some_cons : {A : Type 0} (x : A) (xs : List A) → x ∷ xs ≡ [] → ⊥
some_cons x xs none = absurd cc

no_back : (xs ys : List Change) → xs ++ ys ≡ [] → ys ≡ []
no_back [] ys none = none
no_back (x ∷ xs) ys none = absurd cc

-- where there is something in memory or a table, the state has entries
pub some_entries : (bytes : FilterBytes) (s : State) → IsSound bytes s → (memory s ≢ []) ⊎ (s.tables ≢ []) → changes_of s ≢ []
some_entries bytes s sound (inl some) none = some (ap (λ (log : List Change). (source_of log).entries) (no_back (Rattle.state_model.specs.View.oldest_first s.tables) s.log none))
some_entries bytes s sound (inr some) none = some (without_entries bytes s sound none)

other_epoch : (n : ℕ) → n ≢ last_epoch → (n == last_epoch) ≡ false
unfolding last_epoch
other_epoch n other = ne_eqb n 18446744073709551615 other

begun_with : (bytes : FilterBytes) (s : State) (changes : List Change) → changes ≢ [] → s.epoch ≢ last_epoch
    → compacted_with bytes s changes ≡ compact_placed s (placed bytes s.settings s.pages (taken (without_job s)) 6 (compacted_outputs s))
begun_with bytes s [] some other = absurd (some refl)
begun_with bytes s (e ∷ more) some other =
    ap (λ (b : Bool). cond b (Err LastEpoch) (compact_placed s (placed bytes s.settings s.pages (taken (without_job s)) 6 (compacted_outputs s)))) (other_epoch s.epoch other)

-- what a compaction that is begun makes of it
pub compacted_so : (bytes : FilterBytes) (s : State) → changes_of s ≢ [] → s.epoch ≢ last_epoch → compacted bytes s ≡ compact_placed s (compact_tables bytes (without_job s))
compacted_so bytes s some other = begun_with bytes s (changes_of s) some other

alone : (s : State) → s.job ≡ None → taken (without_job s) ≡ taken s
alone s none = ap (λ (j : Option Job). map extent_of (s.tables ++ written_by j ++ s.kept)) (sym none)

pub compacted_ok : (bytes : FilterBytes) (s : State) (tables : List Table) → s.job ≡ None → changes_of s ≢ [] → s.epoch ≢ last_epoch → compact_tables bytes s ≡ Ok tables
    → compacted bytes s ≡ Ok (compacted_into tables s)
compacted_ok bytes s tables none some other placed_so =
    compacted_so bytes s some other
    ∙ ap (compact_placed s) (ap (λ (es : List _). placed bytes s.settings s.pages es 6 (compacted_outputs s)) (alone s none) ∙ placed_so)

-- its tables are made of entries alone
compacted_no_range : (bytes : FilterBytes) (s : State) (tables : List Table) → compact_tables bytes s ≡ Ok tables → AllByRecursion HasNoRange tables
compacted_no_range bytes s tables so =
    placed_no_range bytes s.settings s.pages (taken s) 6 (outputs_for s.tables (live_entries s)) tables (ap (placed bytes s.settings s.pages (taken s) 6) (sym (compacted_alone s)) ∙ so)

-- ---- the images

pub under_map : (spelling : Spelling) (m : Manifest) (opened : List Opened) → m.slot ≤ 1 → (s : State) (image : Image) → RepresentsOn spelling m opened None s image → StandsForMap spelling (state_map s) image
under_map spelling m opened slot s image under = (s, (m.version, ready_is_state spelling (place_of m.slot) (other_place m.slot) m.other_open m.version s image (are_slots m.slot slot) under.ready), refl)

module _ (spelling : Spelling) (bytes : FilterBytes) (m : Manifest) (opened : List Opened) (slot : m.slot ≤ 1) (rows : rows_of opened ≡ m.version.rows) (s : State) (no_job : s.job ≡ None) (none_kept : s.kept ≡ [])
    (sound : IsSound bytes s) (is : IsVersion m.version) (epoch : m.version.epoch < last_epoch) (same_epoch : s.epoch ≡ m.version.epoch) (some : changes_of s ≢ [])
    (made : List Opened) (tables : List Table) (placed_so : compact_tables bytes s ≡ Ok tables) (area here : ℕ) (small : area ≤ 1) (area_is : other_log_page m.version ≡ log_page_of area)
    (here_is : m.version.log_page ≡ log_page_of here) (other : area ≢ here) (new_is : IsVersion (compacted_manifest m (rows_of made)).version) where
  abbrev to : State
  to = compacted_into tables s

  left : s.epoch ≢ last_epoch
  left last = absurd (omega (arith, last, epoch, same_epoch))

  to_is : compacted bytes s ≡ Ok (compacted_into tables s)
  to_is = compacted_ok bytes s tables no_job some left placed_so

  pub to_sound : IsSound bytes (compacted_into tables s)
  to_sound = compacted_sound bytes s (compacted_into tables s) sound to_is

  pub to_keeps : state_map (compacted_into tables s) ≡ state_map s
  to_keeps = compacted_keeps bytes s (compacted_into tables s) to_is

  abbrev Now_under : Image → Type 0
  Now_under = RepresentsOn spelling m opened None s

  abbrev Stand : Image → Type 0
  Stand = TablesAgree spelling made tables

  pub to_map : (image : Image) → Now_under image → StandsForMap spelling (state_map s) image
  to_map image under = (s, (m.version, ready_is_state spelling (place_of m.slot) (other_place m.slot) m.other_open m.version s image (are_slots m.slot slot) under.ready), refl)

  log_keeps : (f g : Image) → Now_under f × Stand f → Torn (start_of area) 1 f g → Now_under g × Stand g
  log_keeps f g both torn = (
    under_kept spelling bytes m opened slot rows s no_job none_kept (start_of area) 1 f g
        (other_log_apart spelling (place_of m.slot) (other_place m.slot) m.other_open m.version s here area (start_of area) 1 f sound.on_device here_is other small
        (omega arith) (omega arith) both.0.ready) torn both.0,
    held_kept spelling (start_of area) 1 f g torn made tables (behind_logs (compacted_manifest m (rows_of made)).version (start_of area) 1 new_is (omega (arith, small))) both.1,
  )

  module _ (b c : World) (nows : Now Now_under b) (stand : Now Stand b) (log_moves : WriteMoves (start_of area) 1 b c) where
    log_leads : {T E : Type 0} (result : Result T E) → OnOk result (Now (LogIs area []) c)
        → Leads (λ image. Now_under image × Stand image) (λ image. Now_under image × Stand image) (λ image. (Now_under image × Stand image) × LogIs area [] image) result b c
    log_leads result log = leads_around (λ image. Now_under image × Stand image) (LogIs area []) (start_of area) 1 result b c log_keeps log_moves.time log

    both : Now (λ image. Now_under image × Stand image) b
    both image left_there = (nows image left_there, stand image left_there)

    -- the log was not begun
    pub log_failed : {T E : Type 0} (result : Result T E) → OnOk result (Now (LogIs area []) c) → Meanwhile (StandsForMap spelling (state_map s)) b c
    log_failed result log = meanwhile_weaker (λ image. Now_under image × Stand image) (StandsForMap spelling (state_map s)) b c ((log_leads result log).meanwhile both) (λ image here_is. to_map image here_is.0)

    module _ (log : Now (LogIs area []) c) (d : World) (moves : WriteMoves (other_place m.slot) 131072 c d) where
      log_done : Leads {T = Unit {0}} {E = Unit {0}} (λ image. Now_under image × Stand image) (λ image. Now_under image × Stand image) (λ image. (Now_under image × Stand image) × LogIs area [] image) (Ok tt) b c
      log_done = log_leads {T = Unit {0}} {E = Unit {0}} (Ok tt) log

      begun : Now (λ image. (Now_under image × Stand image) × LogIs area [] image) c
      begun = log_done.after both

      log_meanwhile : Meanwhile (StandsForMap spelling (state_map s)) b c
      log_meanwhile = meanwhile_weaker (λ image. Now_under image × Stand image) (StandsForMap spelling (state_map s)) b c (log_done.meanwhile both) (λ image here_is. to_map image here_is.0)

      before_install : Now (Before spelling m slot is made area s tables [] []) c
      before_install image left_there = let all = begun image left_there in (all.0.0.ready, (all.0.1, all.1))

      same_page : {T E : Type 0} (result : Result T E)
          → Leads (StandsInSlot m.slot m.other_open m.version) (IsOldOrNew (install_of (compacted_manifest m (rows_of made)) m.version)) (IsInstalled (install_of (compacted_manifest m (rows_of made)) m.version)) result c d
          → Leads (Before spelling m slot is made area s tables [] []) (StandsForMap spelling (state_map s)) (AfterInstall spelling m slot is made area s tables [] []) result c d
      same_page result leads =
          install_leads spelling m slot is made area s tables [] []
          (subst (λ (page : ℕ). IsVersion (record m.version { log_page = page; rows = rows_of made })) area_is new_is) epoch none_kept to_sound.order (λ image named. record { log = refl; tables = compacted_no_range bytes s tables placed_so }) to_keeps result c d moves
          (subst (λ (page : ℕ). Leads (StandsInSlot m.slot m.other_open m.version) (IsOldOrNew (install_of (record m { version = record m.version { log_page = page; rows = rows_of made } }) m.version))
          (IsInstalled (install_of (record m { version = record m.version { log_page = page; rows = rows_of made } }) m.version)) result c d) area_is leads)

      pub install_meanwhile : {T E : Type 0} (result : Result T E)
          → Leads (StandsInSlot m.slot m.other_open m.version) (IsOldOrNew (install_of (compacted_manifest m (rows_of made)) m.version)) (IsInstalled (install_of (compacted_manifest m (rows_of made)) m.version)) result c d
          → Meanwhile (StandsForMap spelling (state_map s)) b d
      install_meanwhile result leads = meanwhile_then (StandsForMap spelling (state_map s)) b c d log_meanwhile ((same_page result leads).meanwhile before_install)

      -- the install took no memory
      pub install_unread : ReadMoves 0 c d → Now Now_under d
      install_unread reads = reads_keep Now_under 0 c d reads (λ image left_there. (begun image left_there).0.0)

      pub install_done : {T E : Type 0} (x : T)
          → Leads {E = E} (StandsInSlot m.slot m.other_open m.version) (IsOldOrNew (install_of (compacted_manifest m (rows_of made)) m.version)) (IsInstalled (install_of (compacted_manifest m (rows_of made)) m.version)) (Ok x) c d
          → StandAlone spelling bytes s (installed_manifest (compacted_manifest m (rows_of made))) made d
      install_done x leads = record {
        tables = tables;
        placed_so = placed_so;
        images = λ image left_there.
            let end = (same_page (Ok x) leads).after before_install image left_there in
            let back : 1 - (1 - m.slot) ≡ m.slot = omega (arith, slot) in
            let ready : IsReady spelling (other_place m.slot) (place_of m.slot) true (raised (compacted_manifest m (rows_of made)).version) (compacted_into tables s) image =
            subst (λ (page : ℕ). IsReady spelling (other_place m.slot) (place_of m.slot) true (raised (record m.version { log_page = page; rows = rows_of made })) (compacted_into tables s) image) (sym area_is) end.0 in
            record {
              ready = subst (λ (n : ℕ). IsReady spelling (other_place m.slot) (place_of n) true (raised (compacted_manifest m (rows_of made)).version) (compacted_into tables s) image) (sym back) ready;
              tables = end.1;
              job = tt;
            };
      }
