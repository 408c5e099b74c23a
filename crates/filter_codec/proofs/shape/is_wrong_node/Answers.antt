use Rattle.std.proofs.Common.{◌∙◌, ap, arith, cond, drop, get_or, sym, Bool, nat_lt}
use Rattle.std.specs.Prelude.{◌&&◌, ◌||◌, not}
use Rattle.std.proofs.lemmas.Bool.{eq-eqb, ne_eqb}
use Rattle.std.proofs.lemmas.List.{take_rest}
use Rattle.filter_codec.proofs.Shapes.{wrong_more, wrong_one}
use Rattle.filter_codec.specs.Rules.{rise}
use Rattle.filter_codec.proofs.shape.is_wrong_node.Goals as goal

pub returns-then-not-leads_on : goal.returns-then-not-leads_on
returns-then-not-leads_on c =
    sym (wrong_one c.args.leaves c.args.leads_on c.args.labels.now c.if-labels-eq1.true ∙ ap (λ (t : Bool). not t && nat_lt 1 c.args.leaves) c.if-not-leads_on.true)

pub returns-else-not-leads_on : goal.returns-else-not-leads_on
returns-else-not-leads_on c =
    ap not c.if-not-leads_on.false
    ∙ sym (wrong_one c.args.leaves c.args.leads_on c.args.labels.now c.if-labels-eq1.true ∙ ap (λ (t : Bool). not t && nat_lt 1 c.args.leaves) c.if-not-leads_on.false)

pub returns-then-leads_on : goal.returns-then-leads_on
returns-then-leads_on c =
    let l = c.args.labels.now in
    c.if-leads_on.true
    ∙ sym (wrong_more c.args.leaves c.args.leads_on l (omega arith) ∙ (λ j. cond (eq-eqb (get_or l 0 0) 255 c.if-labels.true j) (c.if-leads_on.true j || not (rise (drop 1 l))) (not (rise l))))

pub returns-else-leads_on : goal.returns-else-leads_on
returns-else-leads_on c =
    let l = c.args.labels.now in
    ap not (c.is_rising.ensures ∙ ap rise (take_rest l 1))
    ∙ sym (wrong_more c.args.leaves c.args.leads_on l (omega arith) ∙ (λ j. cond (eq-eqb (get_or l 0 0) 255 c.if-labels.true j) (c.if-leads_on.false j || not (rise (drop 1 l))) (not (rise l))))

pub returns-else-labels : goal.returns-else-labels
returns-else-labels c =
    let l = c.args.labels.now in
    ap not c.is_rising-else-labels.ensures
    ∙ sym (wrong_more c.args.leaves c.args.leads_on l (omega arith) ∙ ap (λ (t : Bool). cond t (c.args.leads_on || not (rise (drop 1 l))) (not (rise l))) (ne_eqb (get_or l 0 0) 255 c.if-labels.false))
