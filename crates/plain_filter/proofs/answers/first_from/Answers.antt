use Rattle.std.proofs.Common.{◌≡◌, true, false, not, sym, ap, ◌∙◌}
use Rattle.filter_model.specs.Answers.{is_past}
use Rattle.filter_api.specs.Seen.{seen}
use Rattle.plain_filter.proofs.Loops.{first-rest_false, first-rest_true}
use Rattle.plain_filter.proofs.answers.first_from.Goals as goal

pub loop-i-preserved : goal.loop-i-preserved
loop-i-preserved c =
    let x = seen c.get.result.now in
    let lo = c.args.lo.now in
    let n = c.args.real_bits in
    let test : not (is_past n lo x) ≡ false = ap not (sym c.leaf_is_past.ensures ∙ c.if-not-leaf_is_past.false) in
    c.loop-i.invariant ∙ first-rest_false (λ f. not (is_past n lo f)) c.args.leaves.now c.loop-i.i x c.get.ensures test

pub returns-then-not-leaf_is_past : goal.returns-then-not-leaf_is_past
returns-then-not-leaf_is_past c =
    let x = seen c.get.result.now in
    let lo = c.args.lo.now in
    let n = c.args.real_bits in
    let test : not (is_past n lo x) ≡ true = ap not (sym c.leaf_is_past.ensures ∙ c.if-not-leaf_is_past.true) in
    sym (c.loop-i.invariant ∙ first-rest_true (λ f. not (is_past n lo f)) c.args.leaves.now c.loop-i.i x c.get.ensures test)
