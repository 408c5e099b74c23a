use Rattle.std.proofs.Common.{◌∙◌, ap, length, count_by}
use Rattle.table_model.specs.Tables.{filter_bytes_of}
use Rattle.store_core.specs.StoreValue.{StoreValue}
use Rattle.store_core.specs.Telling.{is_admitting, is_read_for}
use Rattle.store_core.proofs.Tellings.{seen_admitted, seen_many, seen_read_for}
use Rattle.store_core.proofs.store.Store.explain.Goals as goal

pub returns-clause-answer : goal.returns-clause-answer
returns-clause-answer g c s image seen =
    let spelling = g.F.RangeFilter.spelling in
    let bytes = filter_bytes_of g.F.RangeFilter.spelling g.F.RangeFilter.built_cutoff in
    let key = c.args.key.now in
    let tables = c.as_slice-tables.ensures ∙ ap (λ (k : StoreValue). k.tables) c.self.view_is in (
      ap length tables ∙ seen_many spelling bytes c.args.self.now s image seen,
      c.admitting.ensures ∙ ap (count_by (is_admitting key)) tables ∙ seen_admitted spelling bytes c.args.self.now s image seen key,
      c.read_for.ensures ∙ ap (count_by (is_read_for key)) tables ∙ seen_read_for spelling bytes c.args.self.now s image seen c.standing_tables_are_read.ensures.keys key,
    )
