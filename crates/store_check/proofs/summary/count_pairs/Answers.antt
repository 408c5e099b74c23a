use Rattle.std.proofs.Common.{rules, ◌≡◌, ◌∙◌, length, refl}
use Rattle.std.specs.Prelude.{IfSome}
use Rattle.state_model.specs.View.{state_map}
use Rattle.store_check.proofs.Causes.{only_then}
use Rattle.store_check.proofs.Summarized.{of_state_again}
use Rattle.store_check.proofs.Valued.{same_given}
use Rattle.store_check.proofs.summary.count_pairs.Goals as goal

pub returns-in_err-pairs-clause-pairs : goal.returns-in_err-pairs-clause-pairs
returns-in_err-pairs-clause-pairs g c s tells of =
    let f = g.F.RangeFilter in
    let image = (g.D.Disk.world c.args.disk.now).seen.held in
    let same = of_state_again f.spelling s image image refl of.is c.args.rows.now c.deref.result.now of.rows_are (c.deref.ensures.value ∙ of.records_are) in
    same_given _ c.from_residual.result c.in_err-pairs.field-0.0 c.from_residual.ensures.1 (c.in_err-pairs.ensures.pairs f.spelling s tells same)

pub returns-in-Some-clause-pairs : goal.returns-in-Some-clause-pairs
returns-in-Some-clause-pairs g c s tells of =
    let f = g.F.RangeFilter in
    let image = (g.D.Disk.world c.args.disk.now).seen.held in
    let same = of_state_again f.spelling s image image refl of.is c.args.rows.now c.deref.result.now of.rows_are (c.deref.ensures.value ∙ of.records_are) in
    let here : IfSome c.in_ok-pairs.field-0 (λ many. many ≡ length (state_map s)) = c.in_ok-pairs.ensures.pairs f.spelling s tells same in
    search rules

pub returns-clause-moves : goal.returns-clause-moves
returns-clause-moves g c =
    only_then (g.D.Disk.world c.args.disk.now) (g.D.Disk.world c.count_values.new.disk) (g.D.Disk.world c.merge_pairs.new.disk) c.count_values.ensures.moves c.merge_pairs.ensures.moves
