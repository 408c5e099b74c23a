use Rattle.std.proofs.Common.{rules, ◌≡◌, ◌+◌, ℕ, List, ap, arith}
use Rattle.std.proofs.lemmas.List.Sums.{sum_by-drop_more}
use Rattle.filter_model.specs.Answers.{tally}
use Rattle.state_model.specs.Bounds as model
use Rattle.table_model.specs.Tables.{Table}
use Rattle.plain_store.proofs.bounds.estimate.Goals as goal

pub loop-table-preserved : goal.loop-table-preserved
loop-table-preserved g c =
    let items : List Table = c.as_slice-table-items.result.now in
    let counted : Table → ℕ = λ t. tally t.settings.real_bits (model.table_leaves t) c.args.lo.now c.args.hi.now in
    let more = sum_by-drop_more counted items c.loop-table.table-index c.table-item.result c.loop-table-test.true in
    let one = ap counted c.table-item.is in
    let said : c.in_ok-tally_of.field-0 ≡ counted c.table-item.result = c.in_ok-tally_of.ensures in
    let about : c.in_ok-about-2.about ≡ c.loop-table.about + c.in_ok-tally_of.field-0 = search rules in
    omega (arith, c.loop-table.invariant, more, one, said, about)
