-- A merge that runs is that of a state's job, whatever of the state and of the image is changed elsewhere.
use Rattle.std.proofs.Common.{◌≡◌, ◌≤◌, ◌+◌, ◌∙◌, ℕ, inr, List, [], ◌∷◌, ◌++◌, length, map, refl, sym, ap, subst, arith}
use Rattle.std.specs.Prelude.{Option, Some, None}
use Rattle.std.specs.List.{AllByRecursion}
use Rattle.disk_trait.specs.Image.{Image}
use Rattle.extent_model.specs.Extents.{Extent, IsOnDevice}
use Rattle.filter_api.specs.Spellings.{Spelling}
use Rattle.image_model.specs.Frames.{IsApartFromExtent}
use Rattle.image_model.specs.Stands.{unnamed}
use Rattle.level_merge.specs.FollowLaws.{FlushedIsFollowed}
use Rattle.level_merge.specs.Follows.{Follows}
use Rattle.store_search.specs.TablesAgree.{TablesAgree}
use Rattle.level_merge.specs.JobValue.{JobValue}
use Rattle.level_merge.specs.Plans.{numbered}
use Rattle.manifest_model.specs.Version.{Version}
use Rattle.merge_rows.proofs.Begins.{numbers_known}
use Rattle.merge_rows.specs.Steps.{numbers}
use Rattle.state_model.specs.State.{Job, State, written_by}
use Rattle.state_model.specs.Taken.{extent_of, taken}
use Rattle.state_model.specs.Tends.{outstanding}
use Rattle.table_file.specs.Opened.{Opened}
use Rattle.table_model.specs.Laws.{IsApartFromRow}
use Rattle.table_model.specs.Tables.{Table}
use Rattle.store_core.specs.StoreValue.{rows_of}
use Rattle.store_core.specs.Running.{MayRunIn, RunsAs}

-- ---- of a state of the same settings and tables

pub follows_as : (spelling : Spelling) (s t : State) (opened : List Opened) (image : Image) (m : JobValue) (job : Job) → t.settings ≡ s.settings → t.tables ≡ s.tables
    → Follows spelling s opened image m job → Follows spelling t opened image m job
follows_as spelling s t opened image m job settings tables f = record {
  settings = f.settings ∙ sym settings;
  inputs = subst (λ (ts : List Table). map (numbered ts) (numbers m.merge.walks) ≡ map (λ (u : Table). Some u) job.inputs) (sym tables) f.inputs;
  output = f.output;
  to_read = f.to_read;
  left = f.left;
  left_are = ap (λ (ts : List Table). outstanding ts job) tables ∙ f.left_are;
  makes = f.makes;
}

pub runs_as : (spelling : Spelling) (s t : State) (opened : List Opened) (image : Image) (running : Option JobValue) (job : Option Job) → t.settings ≡ s.settings → t.tables ≡ s.tables
    → RunsAs spelling opened running s job image → RunsAs spelling opened running t job image
runs_as spelling s t opened image None None settings tables runs = tt
runs_as spelling s t opened image None (Some job) settings tables runs = absurd runs
runs_as spelling s t opened image (Some m) None settings tables runs = absurd runs
runs_as spelling s t opened image (Some m) (Some job) settings tables runs = follows_as spelling s t opened image m job settings tables runs

-- where none runs, none is the state's
pub none_runs : (spelling : Spelling) (s : State) (opened : List Opened) (image : Image) (job : Option Job) → RunsAs spelling opened None s job image → job ≡ None
none_runs spelling s opened image None runs = refl
none_runs spelling s opened image (Some job) runs = absurd runs

pub none_run : (spelling : Spelling) (s : State) (opened : List Opened) (image : Image) (running : Option JobValue) (job : Option Job) → running ≡ None → job ≡ None
    → RunsAs spelling opened running s job image
none_run spelling s opened image running job none no_job =
    subst (λ (r : Option JobValue). RunsAs spelling opened r s job image) (sym none) (subst (λ (j : Option Job). RunsAs spelling opened None s j image) (sym no_job) tt)

-- ---- with a table of level 0 before all others

pub runs_behind : FlushedIsFollowed → (spelling : Spelling) (v : Version) (s after : State) (opened : List Opened) (new : Opened) (t : Table) (image : Image) (running : Option JobValue)
    (job : Option Job) → t.level ≡ 0 → MayRunIn v opened running → length opened ≡ length s.tables → after.settings ≡ s.settings → after.tables ≡ t ∷ s.tables
    → RunsAs spelling opened running s job image → RunsAs spelling (new ∷ opened) running after job image
runs_behind law spelling v s after opened new t image None None level may many settings tables runs = tt
runs_behind law spelling v s after opened new t image None (Some job) level may many settings tables runs = absurd runs
runs_behind law spelling v s after opened new t image (Some m) None level may many settings tables runs = absurd runs
runs_behind law spelling v s after opened new t image (Some m) (Some job) level may many settings tables runs =
    law spelling s after opened new t image m job level (numbers_known m.merge.walks opened may.0.numbers) many settings tables runs

-- ---- on another image

-- what it has made is there
pub made_held : (spelling : Spelling) (s : State) (opened : List Opened) (image : Image) (m : JobValue) (job : Job) → Follows spelling s opened image m job
    → TablesAgree spelling m.made job.written image
made_held spelling s opened image m job f = f.makes.made_are

-- what is apart from tables is apart from their rows
pub rows_apart : (spelling : Spelling) (at n : ℕ) (image : Image) (opened : List Opened) (tables : List Table) → TablesAgree spelling opened tables image
    → AllByRecursion (IsApartFromExtent at n) (map extent_of tables) → AllByRecursion (IsApartFromRow at n) (rows_of opened)
rows_apart spelling at n image [] [] held apart = tt
rows_apart spelling at n image [] (t ∷ tables) held apart = absurd held
rows_apart spelling at n image (o ∷ opened) [] held apart = absurd held
rows_apart spelling at n image (o ∷ opened) (t ∷ tables) held apart = (
  subst (IsApartFromExtent at n) (ap extent_of held.0.table_is) apart.0,
  rows_apart spelling at n image opened tables held.1 apart.1,
)

pub front_of : (P : Extent → Type 0) (some others : List Table) → AllByRecursion P (map extent_of (some ++ others)) → AllByRecursion P (map extent_of some)
front_of P [] others all = tt
front_of P (t ∷ some) others all = (all.0, front_of P some others all.1)

rest_of : (P : Extent → Type 0) (named written kept : List Table) → AllByRecursion P (map extent_of (named ++ written ++ kept)) → AllByRecursion P (map extent_of (written ++ kept))
rest_of P [] written kept all = all
rest_of P (t ∷ named) written kept all = rest_of P named written kept all.1

-- what lies before all tables is apart from those that no version names
before_all : (pages at n : ℕ) (tables : List Table) → AllByRecursion (IsOnDevice pages) (map extent_of tables) → at + n ≤ 786432 → AllByRecursion (IsApartFromExtent at n) (map extent_of tables)
before_all pages at n [] on before = tt
before_all pages at n (t ∷ tables) on before = (inr (omega (arith, on.0.from, before)), before_all pages at n tables on.1 before)

pub unnamed_apart : (s : State) (at n : ℕ) → AllByRecursion (IsOnDevice s.pages) (taken s) → at + n ≤ 786432 → AllByRecursion (IsApartFromExtent at n) (map extent_of (unnamed s))
unnamed_apart s at n on before = before_all s.pages at n (unnamed s) (rest_of (IsOnDevice s.pages) s.tables (written_by s.job) s.kept on) before
