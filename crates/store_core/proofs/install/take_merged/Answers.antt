use Rattle.std.proofs.Common.{◌≡◌, ◌∙◌, ◌+◌, ◌-◌, ◌<◌, ◌++◌, ℕ, drop, length, take, sym, ap, ap₂, arith}
use Rattle.std.specs.Prelude.{◌==◌}
use Rattle.std.specs.List.{list_any, remove}
use Rattle.merge_rows.specs.Steps.{numbers}
use Rattle.store_core.specs.Install.{others_in}
use Rattle.store_core.proofs.InstallSteps.{kept_back, passed_back}
use Rattle.store_core.proofs.install.take_merged.Goals.{then-merges, else-merges}
use Rattle.store_core.proofs.install.take_merged.Goals as goal

pub loop-number-preserved : goal.loop-number-preserved
loop-number-preserved g c =
    let tables = c.args.tables.now.tables in
    let number = c.loop-number.number in
    let which = numbers c.args.job.now.merge.walks in
    let place = length tables - (number + 1) in
    let less : number < length tables = omega (arith, c.loop-number-test.true, c.len-many.ensures) in
    let there : place < length tables = omega (arith, less) in
    let next : length tables - number ≡ place + 1 = omega (arith, less) in
    let here : number ≡ length tables - 1 - place = omega (arith, less) in
    let index : c.len-many.result - 1 - number ≡ place = omega (arith, less, c.len-many.ensures) in
    let before : c.loop-number.tables.tables ≡ take (place + 1) tables ++ others_in which (drop (place + 1) tables) = c.loop-number.invariant.all ∙ ap (λ n. take n tables ++ others_in which (drop n tables)) next in
    let test : c.merges.result ≡ list_any (λ (n : ℕ). n == (length tables - 1 - place)) which = c.merges.ensures ∙ ap (λ m. list_any (λ (n : ℕ). n == m) which) here in
    elim c.if-merges.branch [
      | then-merges w ↦ record {
        all = ap (λ t. t.tables) w.tables-is ∙ w.remove.ensures.tables ∙ ap₂ (λ l n. remove l n) before index ∙ passed_back which tables place there (sym test ∙ w.if-merges.true);
        room = omega (arith, ap (λ t. t.room) w.tables-is, w.remove.ensures.room, c.loop-number.invariant.room);
      }
      | else-merges w ↦ record {
        all = ap (λ t. t.tables) w.tables-is ∙ before ∙ kept_back which tables place there (sym test ∙ w.if-merges.false);
        room = omega (arith, ap (λ t. t.room) w.tables-is, c.loop-number.invariant.room);
      }
    ]
