-- A version is installed whose rows are those of open tables: what a crash leaves meanwhile.
use Rattle.std.proofs.Common.{◌≡◌, inl, inr, ◌≤◌, ◌<◌, ◌+◌, ℕ, true, List, [], ◌∷◌, refl, sym, ap, subst, arith}
use Rattle.std.specs.Prelude.{None, Result}
use Rattle.std.specs.List.{AllPairs}
use Rattle.disk_trait.specs.Image.{Image, Torn}
use Rattle.disk_trait.specs.World.{Leads, World, WriteMoves}
use Rattle.disk_trait.proofs.Calls.{leads_framed, leads_weaker}
use Rattle.entry_model.specs.Entries.{Entry}
use Rattle.filter_api.specs.Spellings.{Spelling}
use Rattle.image_model.proofs.Frames.{named_behind_slots}
use Rattle.image_model.proofs.Installs.{installed_ready}
use Rattle.image_model.proofs.Placed.{behind_logs}
use Rattle.image_model.specs.Stands.{IsNamedBy, IsReady, StandsForMap, as_shown}
use Rattle.image_model.specs.Tables.{AreTablesOf}
use Rattle.key_base.specs.Limits.{last_epoch}
use Rattle.store_search.specs.TablesAgree.{TablesAgree}
use Rattle.log_model.proofs.Logs.{log_kept}
use Rattle.log_model.specs.Area.{LogIs}
use Rattle.manifest.proofs.Steps.{may_install, raised_is}
use Rattle.manifest.specs.Manifest.{Manifest, StandsInSlot, install_of, other_place, place_of, raised}
use Rattle.manifest_model.specs.Installs.{Install, IsInstalled, IsOldOrNew, MayInstall}
use Rattle.manifest_model.specs.Laws.{IsVersion}
use Rattle.manifest_model.specs.Version.{log_page_of}
use Rattle.state_model.specs.Sound.{StandsBefore}
use Rattle.state_model.specs.State.{State}
use Rattle.state_model.specs.View.{state_map}
use Rattle.table_file.specs.Opened.{Opened}
use Rattle.table_model.specs.Tables.{Table}
use Rattle.store_core.specs.StoreValue.{rows_of}
use Rattle.store_core.proofs.Frames.{held_kept}
use Rattle.range_model.specs.Sources.{Change}
use Rattle.state_model.specs.WithoutRanges.{HasOnlyEntries}

-- tables that are held are those of their rows
pub held_are_tables : (spelling : Spelling) (image : Image) (opened : List Opened) (tables : List Table) → TablesAgree spelling opened tables image
    → AreTablesOf spelling (rows_of opened) tables image
held_are_tables spelling image [] [] held = tt
held_are_tables spelling image [] (t ∷ tables) held = absurd held
held_are_tables spelling image (o ∷ opened) [] held = absurd held
held_are_tables spelling image (o ∷ opened) (t ∷ tables) held = ((held.0.blocks, held.0.stands.at, held.0.table_is), held_are_tables spelling image opened tables held.1)

-- a version of a store, the tables, the log and the area of the one to come, and the state under the one
module _ (spelling : Spelling) (m : Manifest) (slot_few : m.slot ≤ 1) (is : IsVersion m.version) (opened : List Opened) (area : ℕ) (s : State) (tables : List Table) (log : List Change) (records : List Entry) where
  -- the version to come, and the state under it
  abbrev pub next_of : Manifest
  next_of = record m { version = record m.version { log_page = log_page_of area; rows = rows_of opened } }

  abbrev pub to : State
  to = record s { epoch = s.epoch + 1; log = log; tables = tables; job = None }

  abbrev i : Install
  i = install_of (record m { version = record m.version { log_page = log_page_of area; rows = rows_of opened } }) m.version

  abbrev pub Agrees : Image → Type 0
  Agrees = TablesAgree spelling opened tables

  -- what an image shows before it, and after it
  abbrev pub Before : Image → Type 0
  Before image = IsReady spelling (place_of m.slot) (other_place m.slot) m.other_open m.version s image × (TablesAgree spelling opened tables image × LogIs area log image)

  abbrev pub AfterInstall : Image → Type 0
  AfterInstall image = IsReady spelling (other_place m.slot) (place_of m.slot) true (raised (record m.version { log_page = log_page_of area; rows = rows_of opened }))
      (record s { epoch = s.epoch + 1; log = log; tables = tables; job = None }) image × TablesAgree spelling opened tables image

  module _ (new_is : IsVersion (record m.version { log_page = log_page_of area; rows = rows_of opened })) (epoch : m.version.epoch < last_epoch) (none_kept : s.kept ≡ [])
      (order : AllPairs StandsBefore tables) (only : (image : Image) → IsNamedBy spelling m.version (as_shown s) image → HasOnlyEntries (record s { epoch = s.epoch + 1; log = log; tables = tables; job = None }) records) (same_map : state_map (record s { epoch = s.epoch + 1; log = log; tables = tables; job = None }) ≡ state_map s) where
    -- all that lies after the slots
    abbrev Behind : Image → Type 0
    Behind image = IsNamedBy spelling m.version (as_shown s) image × (TablesAgree spelling opened tables image × LogIs area log image)

    slots_keep : (f g : Image) → Behind f → Torn (other_place m.slot) 131072 f g → Behind g
    slots_keep f g here torn =
        let before : other_place m.slot + 131072 ≤ 262144 = omega arith in (
          named_behind_slots spelling m.version (as_shown s) (other_place m.slot) 131072 f g is before torn here.0,
          (
            held_kept spelling (other_place m.slot) 131072 f g torn opened tables
                (behind_logs (next_of).version (other_place m.slot) 131072 new_is (omega (arith, before))) here.1.0,
            log_kept area log (other_place m.slot) 131072 f g (inr (omega (arith, before))) torn here.1.1,
          ),
        )

    new_named : (image : Image) → Behind image → IsNamedBy spelling (raised (record m.version { log_page = log_page_of area; rows = rows_of opened })) (as_shown to) image
    new_named image here = record {
      settings = here.0.settings;
      pages = here.0.pages;
      epoch = ap (λ (n : ℕ). n + 1) here.0.epoch;
      tables = held_are_tables spelling image opened tables here.1.0;
      order = order;
      area = area;
      area_is = refl;
      log = here.1.1;
      entries = records;
      sets = (only image here.0).log;
      no_ranges = (only image here.0).tables;
      no_job = refl;
      none_kept = refl;
    }

    maps : (image : Image) → Behind image × IsOldOrNew i image → StandsForMap spelling (state_map s) image
    maps image (here, inl old) = (s, (m.version, record { version_is = old; named = here.0 }), refl)
    maps image (here, inr new_there) = (to, (raised (next_of).version, record { version_is = new_there; named = new_named image here }), same_map)

    may : MayInstall i
    may = may_install next_of m.version slot_few (raised_is (next_of).version new_is (λ last. absurd (omega (arith, last, epoch)))) refl

    ends : (image : Image) → Behind image × IsInstalled i image → AfterInstall image
    ends image (here, there) = (
      installed_ready spelling i to image may there (new_named image here) (subst (λ (kept : List Table). Rattle.std.specs.List.AllByRecursion (Rattle.table_model.specs.Images.StandsInExtent spelling image) kept) (sym none_kept) tt),
      here.1.0,
    )

    pub install_leads : {T E : Type 0} (result : Result T E) (c d : World) → WriteMoves (other_place m.slot) 131072 c d
        → Leads (StandsInSlot m.slot m.other_open m.version) (IsOldOrNew i) (IsInstalled i) result c d
        → Leads Before (StandsForMap spelling (state_map s)) AfterInstall result c d
    install_leads result c d moves leads =
        leads_weaker (λ image. Behind image × StandsInSlot m.slot m.other_open m.version image) (λ image. Behind image × IsOldOrNew i image) (λ image. Behind image × IsInstalled i image)
        Before (StandsForMap spelling (state_map s)) AfterInstall result c d
        (leads_framed Behind (StandsInSlot m.slot m.other_open m.version) (IsOldOrNew i) (IsInstalled i) (other_place m.slot) 131072 result c d slots_keep moves.time leads)
        (λ image all. ((all.0.named, all.1), record { current = all.0.current; gate = all.0.gate }))
        maps ends
