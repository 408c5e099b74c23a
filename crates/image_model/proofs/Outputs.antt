-- The tables that an install leaves are in the pages of some rows.
use Rattle.std.proofs.Common.{List, [], ◌∷◌, ◌++◌, subst, Bool, true, false, cond}
use Rattle.std.specs.Prelude.{Option, not, filter, fold, ◌==◌}
use Rattle.std.specs.List.{AllByRecursion, list_any}
use Rattle.byte_fields.specs.declared.parts.Row.{Row}
use Rattle.disk_trait.specs.Image.{Image}
use Rattle.filter_api.specs.Spellings.{Spelling}
use Rattle.state_model.specs.State.{Job, written_by}
use Rattle.state_model.specs.Tends.{goes_before, inserted, installed_tables, without}
use Rattle.table_model.specs.Images.{StandsInExtent}
use Rattle.table_model.specs.Tables.{Table}
use Rattle.image_model.specs.Installs.{OutputsAreTables}
use Rattle.image_model.specs.Tables.{AreTablesOf}

module _ (spelling : Spelling) (image : Image) where
  -- some rows have these tables
  abbrev HaveRows : List Table → Type 0
  HaveRows tables = (rows : List Row) × AreTablesOf spelling rows tables image

  abbrev Stands : Table → Type 0
  Stands t = StandsInExtent spelling image t

  rows_of : (tables : List Table) → AllByRecursion Stands tables → HaveRows tables
  rows_of [] all = ([], tt)
  rows_of (t ∷ more) (stands, all) = let rest = rows_of more all in (stands.0 ∷ rest.0, (stands.1, rest.1))

  stand : (rows : List Row) (tables : List Table) → AreTablesOf spelling rows tables image → AllByRecursion Stands tables
  stand [] [] are = tt
  stand (row ∷ rows) (t ∷ more) are = ((row, are.0), stand rows more are.1)
  stand [] (t ∷ more) are = absurd are
  stand (row ∷ rows) [] are = absurd are

  stand_filter : (test : Table → Bool) (tables : List Table) → AllByRecursion Stands tables → AllByRecursion Stands (filter test tables)
  stand_filter test [] all = tt
  stand_filter test (t ∷ more) (stands, all) = elim (test t) as (λ b. AllByRecursion Stands (cond b (t ∷ filter test more) (filter test more))) [
    | true ↦ (stands, stand_filter test more all)
    | false ↦ stand_filter test more all
  ]

  stand_inserted : (tables : List Table) (new : Table) → AllByRecursion Stands tables → Stands new → AllByRecursion Stands (inserted tables new)
  stand_inserted [] new all stands = (stands, tt)
  stand_inserted (t ∷ more) new (own, all) stands = elim (goes_before new t) as (λ b. AllByRecursion Stands (cond b (new ∷ t ∷ more) (t ∷ inserted more new))) [
    | true ↦ (stands, (own, all))
    | false ↦ (own, stand_inserted more new all stands)
  ]

  stand_fold : (outputs tables : List Table) → AllByRecursion Stands outputs → AllByRecursion Stands tables → AllByRecursion Stands (fold inserted tables outputs)
  stand_fold [] tables none all = all
  stand_fold (t ∷ more) tables (stands, others) all = stand_fold more (inserted tables t) others (stand_inserted tables t all stands)

  stand_first : (outputs kept : List Table) → AllByRecursion Stands (outputs ++ kept) → AllByRecursion Stands outputs
  stand_first [] kept all = tt
  stand_first (t ∷ more) kept (stands, all) = (stands, stand_first more kept all)

  pub stand_installed : (rows : List Row) (tables kept : List Table) (job : Job) → AreTablesOf spelling rows tables image
      → AllByRecursion Stands (job.written ++ kept) → HaveRows (installed_tables tables job)
  stand_installed rows tables kept job are all =
      rows_of (installed_tables tables job)
      (stand_fold job.written (without job.inputs tables) (stand_first job.written kept all)
      (stand_filter (λ (t : Table). not (list_any (λ (i : Table). i.first_page == t.first_page) job.inputs)) tables (stand rows tables are)))

pub outputs_are_tables : OutputsAreTables
outputs_are_tables spelling slot other said v s job image runs ready =
    stand_installed spelling image v.rows s.tables s.kept job ready.named.tables
    (subst (λ (running : Option Job). AllByRecursion (StandsInExtent spelling image) (written_by running ++ s.kept)) runs ready.unnamed)
