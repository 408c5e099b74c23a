-- The merge that is taken up is that of a job of the state: the one that runs, or one that begins.
use Rattle.std.proofs.Common.{◌≡◌, ◌≢◌, inl, inr, ◌∙◌, ◌<◌, ℕ, Bool, true, List, [], ◌∷◌, ◌++◌, length, map, refl, sym, ap, subst, arith, append-nil}
use Rattle.std.specs.Prelude.{Option, Some, None, is_some}
use Rattle.std.proofs.lemmas.Bool.{false≢true}
use Rattle.std.specs.List.{AllByRecursion, AllPairs}
use Rattle.std.proofs.lemmas.List.{length-map}
use Rattle.byte_fields.specs.declared.parts.Row.{Row}
use Rattle.disk_trait.specs.Image.{Image}
use Rattle.extent_model.specs.Extents.{AreLaid}
use Rattle.filter_api.specs.Spellings.{Spelling}
use Rattle.filter_api.specs.declared.settings.Settings.{Settings}
use Rattle.image_model.specs.Stands.{IsReady, settings_of}
use Rattle.level_merge.specs.FollowLaws.{BegunFollows}
use Rattle.level_merge.specs.Follows.{Follows}
use Rattle.store_search.specs.TablesAgree.{TablesAgree}
use Rattle.level_merge.specs.Laws.{StandingAgrees}
use Rattle.level_merge.specs.JobValue.{JobValue, begun}
use Rattle.level_merge.specs.Plans.{Agree, IsPlanOf, MayStart, PlanByNumbers, numbered}
use Rattle.manifest_model.proofs.Rows.{rows_keep}
use Rattle.manifest_model.specs.Laws.{IsVersion}
use Rattle.manifest_model.specs.Rows.{extent_of}
use Rattle.manifest_model.specs.Version.{Version}
use Rattle.map_model.specs.SortedMap.{Bytes}
use Rattle.merge_rows.proofs.Begins.{walks_known}
use Rattle.merge_rows.specs.Merges.{walk_at}
use Rattle.merge_rows.specs.Steps.{number_of_walk, numbers}
use Rattle.state_model.specs.Merges.{Plan, choose}
use Rattle.state_model.specs.State.{Job, State, written_by}
use Rattle.state_model.specs.Tends.{started, with_job}
use Rattle.state_model.specs.WithoutRanges.{HasNoRange}
use Rattle.table_file.specs.Opened.{Opened}
use Rattle.table_model.specs.Images.{StandsInExtent}
use Rattle.table_model.specs.Tables.{Table}
use Rattle.store_core.specs.StoreValue.{StoreValue}
use Rattle.store_core.specs.Running.{HasMoreToMake, IsRun, MayRunIn, RunsAs}
use Rattle.store_core.specs.Tending.{IsBegunAmong, IsNext}
use Rattle.store_core.specs.Represents.{RepresentsOn}
use Rattle.store_core.proofs.Runs.{follows_as, none_runs}

-- the state with the job that it has
pub with_same : (s : State) (job : Job) → s.job ≡ Some job → s ≡ with_job s job
with_same s job here = ap (λ (j : Option Job). record s { job = j }) here

-- an image is ready for another job, where what that has written is
pub ready_with : (spelling : Spelling) (slot other : ℕ) (said : Bool) (v : Version) (s : State) (job : Job) (image : Image)
    → AllByRecursion (StandsInExtent spelling image) (job.written ++ s.kept) → IsReady spelling slot other said v s image → IsReady spelling slot other said v (with_job s job) image
ready_with spelling slot other said v s job image stand ready = record { current = ready.current; gate = ready.gate; named = ready.named; unnamed = stand }

-- ---- the one that runs

module _ (spelling : Spelling) (store : StoreValue) (s : State) where
  abbrev Under : Image → Type 0
  Under = RepresentsOn spelling store.manifest store.tables store.job s

  runs_with : (m : JobValue) (job : Option Job) (image : Image) → store.job ≡ Some m → s.job ≡ job → Under image → RunsAs spelling store.tables (Some m) s job image
  runs_with m job image is here under =
      subst (λ (j : Option Job). RunsAs spelling store.tables (Some m) s j image) here
      (subst (λ (running : Option JobValue). RunsAs spelling store.tables running s s.job image) is under.job)

  next_runs : (m : JobValue) (image : Image) → store.job ≡ Some m → Under image → IsNext spelling store s (Some m)
  next_runs m image is under = elim s.job as (λ j. s.job ≡ j → IsNext spelling store s (Some m)) [
    | Some job ↦ λ here. (
      job,
      inl here,
      λ other there.
          subst (λ (t : State). RepresentsOn spelling store.manifest store.tables (Some m) t other) (with_same s job here)
          (subst (λ (running : Option JobValue). RepresentsOn spelling store.manifest store.tables running s other) is there),
    )
    | None ↦ λ none. absurd (runs_with m None image is none under)
  ] refl

  none_in : store.job ≡ None → (image : Image) → Under image → s.job ≡ None
  none_in none image under =
      none_runs spelling s store.tables image s.job (subst (λ (running : Option JobValue). RunsAs spelling store.tables running s s.job image) none under.job)

  -- ---- none

  next_none : (image : Image) → store.job ≡ None → Under image → choose s.tables ≡ None → IsNext spelling store s None
  next_none image none under is = (none_in none image under, is)

  -- the one that runs, if one does
  pub next_taken : (running : Option JobValue) (image : Image) → running ≡ store.job → is_some running ≡ true → Under image → IsNext spelling store s running
  next_taken None image is some under = absurd (false≢true some)
  next_taken (Some m) image is some under = next_runs m image (sym is) under

  -- ---- one that begins

  stands_with : (plan : Plan) (image : Image) → s.job ≡ None → Under image → AllByRecursion (StandsInExtent spelling image) ((started plan).written ++ s.kept)
  stands_with plan image none under = subst (λ (j : Option Job). AllByRecursion (StandsInExtent spelling image) (written_by j ++ s.kept)) none under.ready.unnamed

  begins_on : BegunFollows → (p : PlanByNumbers) (plan : Plan) (set : Settings) (image : Image) → s.job ≡ None → Under image → MayStart store.tables p → IsPlanOf s.tables (Some p) (Some plan)
      → set ≡ settings_of store.manifest.version → RepresentsOn spelling store.manifest store.tables (Some (begun p set store.tables)) (with_job s (started plan)) image
  begins_on begins p plan set image none under may is same =
      let follows = begins spelling s store.tables image p plan under.tables under.ready.named.no_ranges may is in
      let here = subst (λ (t : Settings). Follows spelling s store.tables image (begun p t store.tables) (started plan)) (under.ready.named.settings ∙ sym same) follows in
      record {
        ready = ready_with spelling _ _ _ store.manifest.version s (started plan) image (stands_with plan image none under) under.ready;
        tables = under.tables;
        job = follows_as spelling s (with_job s (started plan)) store.tables image (begun p set store.tables) (started plan) refl refl here;
      }

  next_begins : BegunFollows → (p : PlanByNumbers) (set : Settings) (image : Image) → store.job ≡ None → Under image → MayStart store.tables p → IsPlanOf s.tables (Some p) (choose s.tables)
      → set ≡ settings_of store.manifest.version → IsNext spelling store s (Some (begun p set store.tables))
  next_begins begins p set image none under may is same = elim (choose s.tables) as (λ c. choose s.tables ≡ c → IsPlanOf s.tables (Some p) c → IsNext spelling store s (Some (begun p set store.tables))) [
    | Some plan ↦ λ chosen named.
        let no_job = none_in none image under in
        (started plan, inr (plan, no_job, chosen, refl), λ other there. begins_on begins p plan set other no_job there may named same)
    | None ↦ λ chosen named. absurd named
  ] refl is

-- nothing is chosen where no plan is
pub not_chosen : (tables : List Table) (p : Option Plan) → IsPlanOf tables None p → p ≡ None
not_chosen tables None is = refl
not_chosen tables (Some plan) is = absurd is

-- tables on the device agree with those of the state
pub all_agree : StandingAgrees → (spelling : Spelling) (image : Image) (opened : List Opened) (tables : List Table) → TablesAgree spelling opened tables image → AllByRecursion HasNoRange tables → Agree opened tables
all_agree law spelling image [] [] held none = tt
all_agree law spelling image [] (t ∷ tables) held none = absurd held
all_agree law spelling image (o ∷ opened) [] held none = absurd held
all_agree law spelling image (o ∷ opened) (t ∷ tables) held none = (
  law spelling o t image held.0 none.0,
  all_agree law spelling image opened tables held.1 none.1,
)

-- ---- whatever the device holds

numbers_from : (tables : List Opened) (low : Bytes) (which : List ℕ) → numbers (map (λ (number : ℕ). record { number = number; walk = walk_at (numbered tables number) low }) which) ≡ which
numbers_from tables low [] = refl
numbers_from tables low (number ∷ which) = ap (λ (l : List ℕ). number ∷ l) (numbers_from tables low which)

-- one that begins may run
pub begun_runs : (v : Version) (tables : List Opened) (p : PlanByNumbers) (set : Settings) → IsVersion v → MayStart tables p → IsRun v tables (begun p set tables)
begun_runs v tables p set version may =
    let same = numbers_from tables [] p.inputs in
    let many = sym (length-map (begun p set tables).merge.walks number_of_walk) ∙ ap length same in
    record {
      numbers = walks_known p.inputs tables [] may.there;
      apart = subst (AllPairs (λ number other. number ≢ other)) (sym same) may.apart;
      written = refl;
      rows = tt;
      laid = subst (λ (rows : List Row). AreLaid v.pages (map extent_of rows)) (sym (append-nil v.rows)) (rows_keep.kept v version.placed).laid;
      few = omega (arith, may.some, many);
    }

pub begun_has_more : (tables : List Opened) (p : PlanByNumbers) (set : Settings) → MayStart tables p → HasMoreToMake (begun p set tables)
begun_has_more tables p set may =
    let many = sym (length-map (begun p set tables).merge.walks number_of_walk) ∙ ap length (numbers_from tables [] p.inputs) in
    omega (arith, may.some, many)

pub begun_may_run : (v : Version) (tables : List Opened) (set : Settings) (found : Option JobValue) → IsVersion v → IsBegunAmong tables set found → MayRunIn v tables found
begun_may_run v tables set None version is = tt
begun_may_run v tables set (Some m) version is =
    subst (λ (x : JobValue). IsRun v tables x × HasMoreToMake x) (sym is.2) (begun_runs v tables is.0 set version is.1, begun_has_more tables is.0 set is.1)

-- ---- with its device

module _ (spelling : Spelling) (store : StoreValue) (s : State) (agrees : StandingAgrees) (begins : BegunFollows) (set : Settings) (same : set ≡ settings_of store.manifest.version)
    (none : store.job ≡ None) (image : Image) (under : RepresentsOn spelling store.manifest store.tables store.job s image) where
  -- the one that begins
  pub next_of_begun : (found : Option JobValue) → IsBegunAmong store.tables set found → IsNext spelling store s found
  next_of_begun None is = next_none spelling store s image none under (is s.tables (all_agree agrees spelling image store.tables s.tables under.tables under.ready.named.no_ranges))
  next_of_begun (Some m) is =
      subst (λ (x : JobValue). IsNext spelling store s (Some x)) (sym is.2)
      (next_begins spelling store s begins is.0 set image none under is.1 (is.3 s.tables (all_agree agrees spelling image store.tables s.tables under.tables under.ready.named.no_ranges)) same)
