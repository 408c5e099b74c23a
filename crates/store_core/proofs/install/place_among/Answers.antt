use Rattle.std.proofs.Common.{◌≡◌, ◌∙◌, ◌<◌, List, length, map, get_or, sym, ap, arith}
use Rattle.std.proofs.lemmas.List.{get_or-map, length-map}
use Rattle.table_file.specs.Opened.{Opened}
use Rattle.store_core.proofs.InstallSteps.{look_found, look_next}
use Rattle.store_core.proofs.install.place_among.Goals as goal

pub returns-then-goes_before-clause-place : goal.returns-then-goes_before-clause-place
returns-then-goes_before-clause-place g c =
    let others : List Opened = map (λ t. t.now) c.args.others.now in
    let place = c.loop-place.place in
    let t = c.index-others-place.result in
    let there : place < length others = omega (arith, c.loop-place-test.true, length-map c.args.others.now (λ t. t.now)) in
    let at : t.now ≡ get_or others place t.now = ap (λ r. r.now) c.index-others-place.is ∙ sym (get_or-map (λ t. t.now) c.args.others.now place t t.now c.loop-place-test.true) in
    sym c.loop-place.invariant ∙ look_found c.args.new.now t.now others place there at (sym c.goes_before.ensures ∙ c.if-goes_before.true)

pub loop-place-preserved : goal.loop-place-preserved
loop-place-preserved g c =
    let others : List Opened = map (λ t. t.now) c.args.others.now in
    let place = c.loop-place.place in
    let t = c.index-others-place.result in
    let there : place < length others = omega (arith, c.loop-place-test.true, length-map c.args.others.now (λ t. t.now)) in
    let at : t.now ≡ get_or others place t.now = ap (λ r. r.now) c.index-others-place.is ∙ sym (get_or-map (λ t. t.now) c.args.others.now place t t.now c.loop-place-test.true) in
    look_next c.args.new.now t.now others place there at (sym c.goes_before.ensures ∙ c.if-goes_before.false) ∙ c.loop-place.invariant
