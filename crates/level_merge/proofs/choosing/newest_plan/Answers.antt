use Rattle.std.proofs.Common.{◌≡◌, ◌<◌, length, map, sym, subst, ap, ◌∙◌}
use Rattle.std.specs.List.{AllByRecursion}
use Rattle.std.specs.Prelude.{◌==◌, IfOk}
use Rattle.level_merge.specs.Outlines.{by_numbers, table_number, outline_of, outlines}
use Rattle.extent_model.proofs.Lists.{all_kept}
use Rattle.level_merge.proofs.Outlines.{all_below, found_again, level_numbered, outlines_alone, planned_by_keys}
use Rattle.state_model.specs.Merges.{Plan, on_level}
use Rattle.state_model.specs.WithoutRanges.{HasNoRange}
use Rattle.table_model.specs.Tables.{Table}
use Rattle.level_merge.proofs.choosing.newest_plan.Goals as goal

pub plan_of-requires-clause-there : goal.plan_of-requires-clause-there
plan_of-requires-clause-there g c =
    let tables = c.args.tables.now in
    subst (AllByRecursion (λ number. number < length tables)) (sym c.in_ok-numbers_on.ensures)
    (all_below tables (on_level 0 (outlines tables)) (level_numbered tables (λ (t : Table). t.level == 0)))

pub returns : goal.returns
returns g c =
    let tables = c.args.tables.now in
    let which : c.in_ok-numbers_on.field-0.items ≡ map table_number (on_level 0 (outlines tables)) = c.in_ok-numbers_on.ensures in
    subst (λ (p : Plan). IfOk c.plan_of.result (λ plan. plan ≡ by_numbers p))
    (planned_by_keys tables (on_level 0 (outlines tables)) 1 (all_kept HasNoRange (λ (t : Table). t.level == 0) (outlines tables) (outlines_alone tables)))
    (c.plan_of.ensures (on_level 0 (outlines tables))
    (ap (map (outline_of tables)) which ∙ found_again tables (on_level 0 (outlines tables)) (level_numbered tables (λ (t : Table). t.level == 0))) which)
