use Rattle.std.proofs.Common.{List, subst}
use Rattle.std.specs.Prelude.{IfErr}
use Rattle.merge_rows.specs.Merges.{Merge, TableWalk}
use Rattle.merge_rows.specs.Reads.{SomeBlock}
use Rattle.merge_rows.specs.Steps.{numbers}
use Rattle.table_file.specs.Search.{IsGetFault}
use Rattle.merge_rows.proofs.rows.MergeRows.fill.Goals as goal

pub returns-clause-fault : goal.returns-clause-fault
returns-clause-fault g c t =
    let tables = c.args.tables.now.tables in
    let held = (g.D.Disk.world c.args.disk.now).seen.held in
    let here =
    subst (λ (walks : List TableWalk). IfErr c.fill_behind.result (λ why. SomeBlock tables (numbers walks) (λ t n. IsGetFault t n held why))) c.deref_mut.ensures.value
    (c.fill_behind.ensures.fault t) in
    subst (λ (m : Merge). IfErr c.fill_behind.result (λ why. SomeBlock tables (numbers m.walks) (λ t n. IsGetFault t n held why))) c.self.view_is here
