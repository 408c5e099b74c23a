use Rattle.std.proofs.Common.{◌≡◌, ◌≤◌, ◌<◌, length, sym, ap, subst, arith}
use Rattle.std.specs.List.{All}
use Rattle.block_model.specs.Places.{FitsDevice}
use Rattle.manifest.specs.Manifest.{Manifest}
use Rattle.store_check.proofs.Parts.{fits_at, none_at}
use Rattle.store_check.proofs.check.Check.row_at_hand.Goals as goal

pub returns-in-Some-clause-fits : goal.returns-in-Some-clause-fits
returns-in-Some-clause-fits c =
    let m = c.in-Some.version in
    let rows = c.version.inside.rows in
    let here : rows.items ≡ m.version.rows = ap (λ (m : Manifest). m.version.rows) c.version.view_is in
    let lt : c.rows-in-Some.result < length rows.items = omega (arith, c.if-rows-len.true, c.rows.ensures, c.rows-in-Some.ensures, c.len.ensures, rows.ok.0) in
    fits_at rows.items c.rows-in-Some.result c.index.result.now c.index.ensures lt (subst (All FitsDevice) (sym here) (c.args.self.now.sound m c.in-Some.is).fits)

pub returns-in_default-clause-row : goal.returns-in_default-clause-row
returns-in_default-clause-row c =
    let m = c.in-Some.version in
    let order = c.args.self.now.order in
    let here : c.version.inside.rows.items ≡ m.version.rows = ap (λ (m : Manifest). m.version.rows) c.version.view_is in
    let past : length m.version.rows ≤ order.rows = omega (arith, c.if-rows-len.false, c.rows.ensures, c.len.ensures, c.version.inside.rows.ok.0, ap length here) in
    none_at c.args.self.now.version m order c.in-Some.is past
