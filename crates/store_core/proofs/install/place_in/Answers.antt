use Rattle.std.proofs.Common.{◌≡◌, ◌∙◌, ◌<◌, length, get_or, sym, arith}
use Rattle.std.proofs.lemmas.Option.{get_or_from_slice_get}
use Rattle.store_core.proofs.InstallSteps.{look_found, look_next}
use Rattle.store_core.proofs.install.place_in.Goals as goal

pub returns-then-goes_before-clause-place : goal.returns-then-goes_before-clause-place
returns-then-goes_before-clause-place g c =
    let tables = c.args.tables.now.tables in
    let place = c.loop-place.place in
    let t = c.get.result.now in
    let there : place < length tables = omega (arith, c.loop-place-test.true, c.len-place-end.ensures) in
    let at : t ≡ get_or tables place t = sym (get_or_from_slice_get tables place t t c.get.ensures) in
    sym c.loop-place.invariant ∙ look_found c.args.new.now t tables place there at (sym c.goes_before.ensures ∙ c.if-goes_before.true)

pub loop-place-preserved : goal.loop-place-preserved
loop-place-preserved g c =
    let tables = c.args.tables.now.tables in
    let place = c.loop-place.place in
    let t = c.get.result.now in
    let there : place < length tables = omega (arith, c.loop-place-test.true, c.len-place-end.ensures) in
    let at : t ≡ get_or tables place t = sym (get_or_from_slice_get tables place t t c.get.ensures) in
    look_next c.args.new.now t tables place there at (sym c.goes_before.ensures ∙ c.if-goes_before.false) ∙ c.loop-place.invariant
