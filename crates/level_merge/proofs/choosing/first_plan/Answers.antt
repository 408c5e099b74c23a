use Rattle.std.proofs.Common.{◌≡◌, ◌<◌, ℕ, length, map, take, sym, subst, ap, ◌∙◌, List}
use Rattle.std.specs.List.{AllByRecursion}
use Rattle.std.specs.Prelude.{◌==◌, ◌+◌, IfOk}
use Rattle.std.proofs.lemmas.List.{take-map}
use Rattle.level_merge.specs.Outlines.{by_numbers, table_number, outline_of, outlines}
use Rattle.extent_model.proofs.Lists.{all_kept}
use Rattle.level_merge.proofs.Outlines.{IsNumbered, all_below, all_taken, found_again, level_numbered, outlines_alone, planned_by_keys}
use Rattle.state_model.specs.Merges.{Plan, on_level}
use Rattle.state_model.specs.WithoutRanges.{HasNoRange}
use Rattle.table_file.specs.Opened.{Opened}
use Rattle.table_model.specs.Tables.{Table}
use Rattle.level_merge.proofs.choosing.first_plan.Goals as goal

first_numbered : (tables : List Opened) (level : ℕ) → AllByRecursion (IsNumbered tables) (take 1 (on_level level (outlines tables)))
first_numbered tables level = all_taken (IsNumbered tables) 1 (on_level level (outlines tables)) (level_numbered tables (λ (t : Table). t.level == level))

pub plan_of-requires-clause-there : goal.plan_of-requires-clause-there
plan_of-requires-clause-there g c =
    let tables = c.args.tables.now in
    let level = c.args.level in
    let which : c.truncate.new.self.items ≡ map table_number (take 1 (on_level level (outlines tables))) =
    c.truncate.ensures.items ∙ ap (take 1) c.in_ok-which.ensures ∙ take-map table_number 1 (on_level level (outlines tables)) in
    subst (AllByRecursion (λ number. number < length tables)) (sym which) (all_below tables (take 1 (on_level level (outlines tables))) (first_numbered tables level))

pub returns : goal.returns
returns g c =
    let tables = c.args.tables.now in
    let level = c.args.level in
    let which : c.truncate.new.self.items ≡ map table_number (take 1 (on_level level (outlines tables))) =
    c.truncate.ensures.items ∙ ap (take 1) c.in_ok-which.ensures ∙ take-map table_number 1 (on_level level (outlines tables)) in
    subst (λ (p : Plan). IfOk c.plan_of.result (λ plan. plan ≡ by_numbers p))
    (planned_by_keys tables (take 1 (on_level level (outlines tables))) (level + 1)
    (all_taken HasNoRange 1 (on_level level (outlines tables)) (all_kept HasNoRange (λ (t : Table). t.level == level) (outlines tables) (outlines_alone tables))))
    (c.plan_of.ensures (take 1 (on_level level (outlines tables)))
    (ap (map (outline_of tables)) which ∙ found_again tables (take 1 (on_level level (outlines tables))) (first_numbered tables level)) which)
