use Rattle.std.proofs.Common.{◌≡◌, ◌∙◌, true, [], refl, sym, ap}
use Rattle.store_check.proofs.OneLevel.{one_level_has_its_values}
use Rattle.store_check.proofs.Summarized.{tables_again}
use Rattle.store_check.proofs.Valued.{none_of_empty, pairs_of_sum}
use Rattle.store_check.specs.Values.{are_on_one_level}
use Rattle.store_check.proofs.summary.count_values.Goals as goal

pub returns-then-are_on_one_level-clause-pairs : goal.returns-then-are_on_one_level-clause-pairs
returns-then-are_on_one_level-clause-pairs g c spelling s tells of =
    let image = (g.D.Disk.world c.args.disk.now).seen.held in
    let none : s.log ≡ [] = sym of.records_are ∙ none_of_empty c.args.records.now (sym c.is_empty.ensures ∙ c.if-is_empty.true) in
    let level : are_on_one_level of.is.0.rows ≡ true = ap are_on_one_level (sym of.rows_are) ∙ sym c.are_on_one_level.ensures ∙ c.if-are_on_one_level.true in
    let tables = tables_again spelling s image image refl of.is c.args.rows.now of.rows_are in
    pairs_of_sum c.values_of_tables.result _ _ _ (sym (one_level_has_its_values spelling image s of.is none level)) (c.values_of_tables.ensures.values spelling s.tables tells tables)
