-- What is written apart from what is under a store, done or cut short, changes none of it.
use Rattle.std.proofs.Common.{◌≡◌, inl, inr, ◌∙◌, ◌≤◌, ◌+◌, ℕ, zero, suc, List, [], ◌∷◌, ◌++◌, refl, sym, ap, ap₂, subst, arith}
use Rattle.std.specs.Prelude.{Option, Some, None, map}
use Rattle.std.specs.List.{AllByRecursion}
use Rattle.disk_trait.specs.Image.{Image, Torn}
use Rattle.entry_model.specs.Entries.{Entry}
use Rattle.filter_api.specs.Spellings.{Spelling}
use Rattle.image_model.proofs.Frames.{log_replaced, ready_is_state, ready_kept}
use Rattle.image_model.proofs.Placed.{behind_logs}
use Rattle.image_model.specs.Frames.{IsApartFromExtent, IsApartFromReady}
use Rattle.image_model.specs.Stands.{StandsForMap}
use Rattle.log_model.specs.Area.{LogIs, start_of}
use Rattle.manifest.specs.Manifest.{Manifest, other_place, place_of}
use Rattle.manifest_model.specs.Slots.{AreSlots}
use Rattle.manifest_model.specs.Version.{log_page_of}
use Rattle.extent_model.specs.Extents.{IsOnDevice}
use Rattle.range_model.specs.Sources.{Change, Sets}
use Rattle.state_model.specs.State.{Job, State, written_by}
use Rattle.state_model.specs.Taken.{extent_of, taken}
use Rattle.state_model.specs.View.{state_map}
use Rattle.table_file.specs.Opened.{Opened}
use Rattle.table_file.specs.Search.{StandsThere}
use Rattle.table_model.proofs.Kept.{at_kept, kept_pieces, kept_ranges}
use Rattle.table_model.specs.Images.{table_with}
use Rattle.table_model.specs.Laws.{IsApartFromRow}
use Rattle.table_model.specs.Pieces.{index_of_pieces}
use Rattle.table_model.specs.Tables.{Table}
use Rattle.store_core.specs.StoreValue.{rows_of}
use Rattle.level_merge.specs.FollowLaws.{OtherImageIsFollowed}
use Rattle.level_merge.specs.JobValue.{JobValue}
use Rattle.store_search.specs.TablesAgree.{TableAgrees, TablesAgree}
use Rattle.store_core.specs.Running.{RunsAs}
use Rattle.store_core.specs.Represents.{RepresentsOn}
use Rattle.store_core.proofs.Runs.{front_of, made_held, rows_apart, runs_as, unnamed_apart}

pub are_slots : (slot : ℕ) → slot ≤ 1 → AreSlots (place_of slot) (other_place slot)
are_slots zero few = inl (omega arith, omega arith)
are_slots (suc n) few = inr (omega (arith, few), omega (arith, few))

-- ---- open tables

module _ (spelling : Spelling) (at n : ℕ) (f g : Image) (torn : Torn at n f g) where
  stands_kept : (t : Opened) (blocks : List (List Entry)) → IsApartFromRow at n t.row → StandsThere spelling t blocks f → StandsThere spelling t blocks g
  stands_kept t blocks apart s = record {
    at = at_kept spelling t.row blocks at n f g apart torn s.at;
    index_is = s.index_is ∙ sym (ap₂ index_of_pieces (kept_pieces spelling t.row blocks at n f g apart torn s.at) (kept_ranges spelling t.row blocks at n f g apart torn s.at));
    hash_is = s.hash_is;
    real_is = s.real_is;
    leaves_are = s.leaves_are;
  }

  one_kept : (opened : Opened) (t : Table) → IsApartFromRow at n opened.row → TableAgrees spelling opened t f → TableAgrees spelling opened t g
  unfolding stands_kept
  one_kept opened t apart held = record { blocks = held.blocks; stands = stands_kept opened held.blocks apart held.stands; table_is = held.table_is ∙ ap (table_with opened.row held.blocks) (sym (kept_ranges spelling opened.row held.blocks at n f g apart torn held.stands.at)) }

  pub held_kept : (opened : List Opened) (tables : List Table) → AllByRecursion (IsApartFromRow at n) (rows_of opened) → TablesAgree spelling opened tables f → TablesAgree spelling opened tables g
  held_kept [] [] apart held = tt
  held_kept [] (t ∷ tables) apart held = elim held [ ]
  held_kept (o ∷ opened) [] apart held = elim held [ ]
  held_kept (o ∷ opened) (t ∷ tables) apart held = (one_kept o t apart.0 held.0, held_kept opened tables apart.1 held.1)

-- ---- the merge that runs

-- what is written apart from what it has made changes nothing of it, as long as its tables stay
pub runs_kept : OtherImageIsFollowed → (spelling : Spelling) (s : State) (at n : ℕ) (f g : Image) → Torn at n f g → (opened : List Opened) → TablesAgree spelling opened s.tables f
    → TablesAgree spelling opened s.tables g → (running : Option JobValue) (job : Option Job) → AllByRecursion (IsApartFromExtent at n) (map extent_of (written_by job ++ s.kept))
    → RunsAs spelling opened running s job f → RunsAs spelling opened running s job g
runs_kept law spelling s at n f g torn opened here there None None apart runs = tt
runs_kept law spelling s at n f g torn opened here there None (Some job) apart runs = absurd runs
runs_kept law spelling s at n f g torn opened here there (Some m) None apart runs = absurd runs
runs_kept law spelling s at n f g torn opened here there (Some m) (Some job) apart runs =
    let made = made_held spelling s opened f m job runs in
    law spelling s opened f g m job here there
    (held_kept spelling at n f g torn m.made job.written
    (rows_apart spelling at n f m.made job.written made (front_of (IsApartFromExtent at n) job.written s.kept apart)) made) runs

-- ---- all that is under a store

module _ (spelling : Spelling) (m : Manifest) (opened : List Opened) (running : Option JobValue) (few : m.slot ≤ 1) (rows : rows_of opened ≡ m.version.rows) where
  pub under_kept : OtherImageIsFollowed → (s : State) (at n : ℕ) (f g : Image) → IsApartFromReady m.version s at n → Torn at n f g → RepresentsOn spelling m opened running s f
      → RepresentsOn spelling m opened running s g
  under_kept law s at n f g apart torn under =
      let tables = held_kept spelling at n f g torn opened s.tables (subst (AllByRecursion (IsApartFromRow at n)) (sym rows) apart.named.rows) under.tables in
      record {
        ready = ready_kept spelling (place_of m.slot) (other_place m.slot) m.other_open m.version s at n f g (are_slots m.slot few) apart torn under.ready;
        tables = tables;
        job = runs_kept law spelling s at n f g torn opened under.tables tables running s.job apart.unnamed under.job;
      }

  -- with another log in the area in use
  pub under_logged : OtherImageIsFollowed → (s : State) (log : List Change) (entries : List Entry) (area at n : ℕ) (f g : Image) → AllByRecursion (IsOnDevice s.pages) (taken s) → m.version.log_page ≡ log_page_of area
      → start_of area ≤ at → at + n ≤ start_of area + 262144 → area ≤ 1 → Torn at n f g → LogIs area log g → log ≡ map Sets entries
      → RepresentsOn spelling m opened running s f → RepresentsOn spelling m opened running (record s { log = log }) g
  under_logged law s log entries area at n f g on page_is from to small torn spelled sets under =
      let tables = held_kept spelling at n f g torn opened s.tables
      (subst (AllByRecursion (IsApartFromRow at n)) (sym rows) (behind_logs m.version at n under.ready.current.here.sound (omega (arith, to, small)))) under.tables in
      record {
        ready = log_replaced spelling (place_of m.slot) (other_place m.slot) m.other_open m.version s log entries area at n f g (are_slots m.slot few) on page_is from to torn spelled sets under.ready;
        tables = tables;
        job = runs_as spelling s (record s { log = log }) opened g running s.job refl refl
            (runs_kept law spelling s at n f g torn opened under.tables tables running s.job (unnamed_apart s at n on (omega (arith, to, small))) under.job);
      }

  -- the map of the state is that of the image
  pub under_stands : (s : State) (image : Image) → RepresentsOn spelling m opened running s image → StandsForMap spelling (state_map s) image
  under_stands s image under =
      (s, (m.version, ready_is_state spelling (place_of m.slot) (other_place m.slot) m.other_open m.version s image (are_slots m.slot few) under.ready), refl)

  -- the log is in the area in use
  pub under_log : (s : State) (area : ℕ) (image : Image) → m.version.log_page ≡ log_page_of area → RepresentsOn spelling m opened running s image → LogIs area s.log image
  under_log s area image page_is under =
      let named = under.ready.named in
      let same : named.area ≡ area = omega (arith, named.area_is, page_is) in
      subst (λ (n : ℕ). LogIs n s.log image) same named.log
