-- What the version in use, the merge that runs and the state under both agree in.
use Rattle.std.proofs.Common.{◌≡◌, ◌∙◌, List, [], ◌∷◌, ◌++◌, length, refl, sym, ap, ap₂, map}
use Rattle.std.specs.Prelude.{Option, Some, None}
use Rattle.std.proofs.lemmas.List.{append-nil, length-map, map-append}
use Rattle.byte_fields.specs.declared.parts.Row.{Row}
use Rattle.disk_trait.specs.Image.{Image}
use Rattle.disk_trait.specs.World.{World}
use Rattle.extent_model.specs.Extents.{Extent}
use Rattle.filter_api.specs.Spellings.{Spelling}
use Rattle.image_model.specs.Stands.{settings_of}
use Rattle.store_search.specs.TablesAgree.{TablesAgree}
use Rattle.level_merge.specs.JobValue.{JobValue}
use Rattle.manifest.specs.Manifest.{Manifest}
use Rattle.manifest_model.specs.Rows as rows
use Rattle.manifest_model.specs.Version.{Version}
use Rattle.state_model.specs.State.{Job, State, written_by}
use Rattle.state_model.specs.Taken.{extent_of, taken}
use Rattle.table_file.specs.Opened.{Opened}
use Rattle.table_model.specs.Tables.{FilterBytes, Table}
use Rattle.store_core.specs.StoreValue.{StoreValue, rows_of}
use Rattle.store_core.specs.Running.{RunsAs, extents_with, outputs_in}
use Rattle.store_core.specs.Represents.{Represents, RepresentsOn}
use Rattle.store_core.proofs.Taken.{rows_extents}

pub record Agree (v : Version) (outputs : List Row) (s : State) : Type 0 where
  pub settings : s.settings ≡ settings_of v
  pub pages : s.pages ≡ v.pages
  pub epoch : s.epoch ≡ v.epoch
  pub taken_is : taken s ≡ extents_with v outputs
  pub many : length s.tables ≡ length v.rows

-- the extents of tables are those of the rows of the open tables
pub held_extents : (spelling : Spelling) (image : Image) (opened : List Opened) (tables : List Table) → TablesAgree spelling opened tables image
    → map extent_of tables ≡ map rows.extent_of (rows_of opened)
held_extents spelling image [] [] held = refl
held_extents spelling image [] (t ∷ tables) held = absurd held
held_extents spelling image (o ∷ opened) [] held = absurd held
held_extents spelling image (o ∷ opened) (t ∷ tables) held =
    ap₂ (λ (e : Extent) (more : List Extent). e ∷ more) (ap extent_of held.0.table_is) (held_extents spelling image opened tables held.1)

-- and those of what a job has written are those of the outputs
pub written_extents : (spelling : Spelling) (s : State) (image : Image) (opened : List Opened) (running : Option JobValue) (job : Option Job) → RunsAs spelling opened running s job image
    → map extent_of (written_by job) ≡ map rows.extent_of (outputs_in running)
written_extents spelling s image opened None None runs = refl
written_extents spelling s image opened None (Some job) runs = absurd runs
written_extents spelling s image opened (Some m) None runs = absurd runs
written_extents spelling s image opened (Some m) (Some job) runs =
    held_extents spelling image m.made job.written runs.makes.made_are ∙ ap (map rows.extent_of) (sym runs.makes.rows)

-- with nothing kept, the tables and what is written of the job are taken
taken_parts : (s : State) → s.kept ≡ [] → taken s ≡ map extent_of s.tables ++ map extent_of (written_by s.job)
taken_parts s none_kept =
    ap (λ (k : List Table). map extent_of (s.tables ++ written_by s.job ++ k)) none_kept
    ∙ ap (λ (ts : List Table). map extent_of ts) (append-nil (s.tables ++ written_by s.job))
    ∙ map-append extent_of s.tables (written_by s.job)

pub agree : (spelling : Spelling) (m : Manifest) (opened : List Opened) (running : Option JobValue) (s : State) (image : Image) → s.kept ≡ [] → RepresentsOn spelling m opened running s image
    → Agree m.version (outputs_in running) s
agree spelling m opened running s image none_kept under =
    let named = under.ready.named in
    let extents = rows_extents spelling image m.version.rows s.tables named.tables in
    record {
      settings = named.settings;
      pages = named.pages;
      epoch = named.epoch;
      taken_is = taken_parts s none_kept
          ∙ ap₂ (λ (xs ys : List Extent). xs ++ ys) extents (written_extents spelling s image opened running s.job under.job)
          ∙ sym (map-append rows.extent_of m.version.rows (outputs_in running));
      many = sym (length-map s.tables extent_of) ∙ ap (λ (es : List Extent). length es) extents ∙ length-map m.version.rows rows.extent_of;
    }

-- by the image that the device holds
pub tied_agree : (spelling : Spelling) (bytes : FilterBytes) (store : StoreValue) (s : State) (w : World) → w.leaves w.moment w.seen.held → Represents spelling bytes store s w
    → Agree store.manifest.version (outputs_in store.job) s
tied_agree spelling bytes store s w current tied = agree spelling store.manifest store.tables store.job s w.seen.held tied.none_kept (tied.images w.seen.held current)
