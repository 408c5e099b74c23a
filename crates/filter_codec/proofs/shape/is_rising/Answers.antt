use Rattle.std.proofs.Common.{◌≡◌, ◌+◌, ◌-◌, ◌∙◌, ap, arith, drop, get_or, le-ltb, lt-ltb, sym, Bool}
use Rattle.std.specs.Prelude.{◌&&◌}
use Rattle.std.proofs.lemmas.List.{length-drop}
use Rattle.filter_codec.proofs.Shapes.{rise_last, rise_step}
use Rattle.filter_codec.specs.Rules.{rise}
use Rattle.filter_codec.proofs.shape.is_rising.Goals as goal

pub returns-then-labels-i : goal.returns-then-labels-i
returns-then-labels-i c =
    let l = c.args.labels.now in
    let i = c.loop-i.i in
    sym (c.loop-i.invariant ∙ rise_step l i (omega arith) (omega arith) ∙ ap (λ (t : Bool). t && rise (drop i l)) (le-ltb (get_or l (i - 1) 0) (get_or l i 0) c.if-labels-i.true))

pub loop-i-preserved : goal.loop-i-preserved
loop-i-preserved c =
    let l = c.args.labels.now in
    let i = c.loop-i.i in
    let same : i ≡ i + 1 - 1 = omega arith in
    c.loop-i.invariant ∙ rise_step l i (omega arith) (omega arith) ∙ ap (λ (t : Bool). t && rise (drop i l)) (lt-ltb (get_or l (i - 1) 0) (get_or l i 0) c.if-labels-i.false) ∙ ap (λ k. rise (drop k l)) same

pub returns : goal.returns
returns c =
    let l = c.args.labels.now in
    let i = c.loop-i.i in
    sym (c.loop-i.invariant ∙ rise_last (drop (i - 1) l) (omega (arith, length-drop (i - 1) l)))
