-- Tables that are made of entries alone have no range: those of a merge of such tables, and those of a compaction.
use Rattle.std.proofs.Common.{◌≡◌, ◌+◌, ℕ, zero, suc, List, [], ◌∷◌, map, refl, sym, ap, subst}
use Rattle.std.specs.Prelude.{Some, None, Ok, take, drop, ◌==◌}
use Rattle.std.specs.List.{AllByRecursion}
use Rattle.entry_model.specs.Entries.{Entry}
use Rattle.entry_model.specs.Newest.{newest_entries}
use Rattle.extent_model.proofs.Lists.{all_kept}
use Rattle.extent_model.specs.Extents.{Extent}
use Rattle.extent_model.specs.Gaps.{first_gap, largest_gap}
use Rattle.filter_api.specs.declared.settings.Settings.{Settings}
use Rattle.range_model.specs.Sources.{Source, alone}
use Rattle.table_model.specs.Tables.{FilterBytes, Table, source_pages, table_from}
use Rattle.state_model.specs.Merges.{NoRoom, Plan, at_page, before, is_deepest, lasting, on_level, outputs_for, placed, plan_of, reaches_into}
use Rattle.state_model.specs.Sound.{AreMade, IsJob, IsSound, MayRun, plan_of_job}
use Rattle.state_model.specs.State.{Job, State}
use Rattle.state_model.specs.Tends.{installed_tables, without}
use Rattle.state_model.specs.WithoutRanges.{HasNoRange, table_entries}
use Rattle.state_model.proofs.Installs.{IsPlan, choose_is, fold_all, of_level, of_level_0}
use Rattle.state_model.proofs.Orders.{all_drop}
use Rattle.state_model.proofs.Places.{front_of}
use Rattle.state_model.proofs.Taken.{all_join}
use Rattle.state_model.proofs.WithoutRanges.{planned_alone}

-- ---- what is placed

made_alone : (filter_bytes : FilterBytes) (settings : Settings) (level : ℕ) (outputs : List (List Entry)) (tables : List Table)
    → AreMade filter_bytes settings level (map alone outputs) tables → AllByRecursion HasNoRange tables
made_alone filter_bytes settings level outputs [] are = tt
made_alone filter_bytes settings level [] (t ∷ more) are = elim are [ ]
made_alone filter_bytes settings level (output ∷ outputs) (t ∷ more) are =
    (ap (λ (u : Table). u.ranges) are.0, made_alone filter_bytes settings level outputs more are.1)

pub placed_no_range : (filter_bytes : FilterBytes) (settings : Settings) (pages : ℕ) (taken : List Extent) (level : ℕ) (outputs : List (List Entry)) (tables : List Table)
    → placed filter_bytes settings pages taken level (map alone outputs) ≡ Ok tables → AllByRecursion HasNoRange tables
placed_no_range filter_bytes settings pages taken level [] [] e = tt
placed_no_range filter_bytes settings pages taken level [] (t ∷ more) e = absurd cc
placed_no_range filter_bytes settings pages taken level (output ∷ outputs) tables e =
    let need = source_pages filter_bytes settings (alone output) in
    let there = λ (page : ℕ). before (table_from filter_bytes settings level page (alone output)) (placed filter_bytes settings pages ((page, need) ∷ taken) level (map alone outputs)) in
    let refused : NoRoom = record { need = need; gap = largest_gap pages taken } in
    elim (first_gap pages taken need) as (λ o. at_page o there refused ≡ Ok tables → AllByRecursion HasNoRange tables) [
      | None ↦ λ so. absurd cc
      | Some page ↦ λ so.
          let front = front_of (table_from filter_bytes settings level page (alone output)) (placed filter_bytes settings pages ((page, need) ∷ taken) level (map alone outputs)) tables so in
          subst (AllByRecursion HasNoRange) (sym front.first)
          (refl, placed_no_range filter_bytes settings pages ((page, need) ∷ taken) level outputs front.rest front.later)
    ] e

-- ---- what a job merges

all_taken : {X : Type 0} (P : X → Type 0) (n : ℕ) (xs : List X) → AllByRecursion P xs → AllByRecursion P (take n xs)
all_taken P zero xs all = tt
all_taken P (suc n) [] all = tt
all_taken P (suc n) (x ∷ xs) all = (all.0, all_taken P n xs all.1)

module _ (P : Table → Type 0) (all : List Table) (are : AllByRecursion P all) where
  of_level_all : (level : ℕ) → AllByRecursion P (on_level level all)
  of_level_all level = all_kept P (λ (t : Table). t.level == level) all are

  of_plan : (tables : List Table) (output : ℕ) → AllByRecursion P tables → AllByRecursion P (plan_of all tables output).inputs
  of_plan tables output own = all_join P tables _ own (all_kept P (reaches_into tables) (on_level output all) (of_level_all output))

  inputs_all : (plan : Plan) → IsPlan all plan → AllByRecursion P plan.inputs
  inputs_all plan (of_level_0 is) = subst (λ (p : Plan). AllByRecursion P p.inputs) (sym is) (of_plan (on_level 0 all) 1 (of_level_all 0))
  inputs_all plan (of_level level some is) =
      subst (λ (p : Plan). AllByRecursion P p.inputs) (sym is) (of_plan (take 1 (on_level level all)) (level + 1) (all_taken P 1 (on_level level all) (of_level_all level)))

pub written_no_range : (filter_bytes : FilterBytes) (settings : Settings) (tables : List Table) (job : Job) → IsJob filter_bytes settings tables job → AllByRecursion HasNoRange tables
    → AllByRecursion HasNoRange job.written
written_no_range filter_bytes settings tables job is none =
    let inputs = inputs_all HasNoRange (drop is.flushes tables) (all_drop HasNoRange is.flushes tables none) (plan_of_job job) (choose_is (drop is.flushes tables) (plan_of_job job) is.chosen) in
    made_alone filter_bytes settings job.output (outputs_for job.inputs (lasting (is_deepest tables job.output) (newest_entries (table_entries job.inputs)))) job.written
    (subst (λ (outputs : List Source). AreMade filter_bytes settings job.output outputs job.written) (planned_alone tables (plan_of_job job) inputs) is.written)

pub installed_no_range : (filter_bytes : FilterBytes) (s : State) (job : Job) → IsSound filter_bytes s → s.job ≡ Some job → AllByRecursion HasNoRange s.tables
    → AllByRecursion HasNoRange (installed_tables s.tables job)
installed_no_range filter_bytes s job sound runs none =
    fold_all HasNoRange job.written (without job.inputs s.tables)
    (written_no_range filter_bytes s.settings s.tables job (subst (MayRun filter_bytes s.settings s.tables) runs sound.job) none)
    (all_kept HasNoRange _ s.tables none)
