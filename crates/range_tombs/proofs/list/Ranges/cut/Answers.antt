use Rattle.std.proofs.Common.{List, sym, subst, ap, ◌∙◌}
use Rattle.range_model.specs.Ranges.{AreRanges, DeletedRange, ranges_below, ranges_from}
use Rattle.range_tombs.proofs.Parts.{kept_below, kept_from}
use Rattle.range_tombs.proofs.list.Ranges.cut.Goals as goal

pub invariant_of-result : goal.invariant_of-result
invariant_of-result c =
    let is = c.in_ok-below.ensures ∙ ap (λ (l : List DeletedRange). ranges_below l c.args.at.now) c.deref.ensures.value in
    (subst AreRanges (sym is) (kept_below _ c.args.at.now c.self.invariant.0 c.requires), c.in_ok-below.below.ok.1)

pub invariant_of-result-2 : goal.invariant_of-result-2
invariant_of-result-2 c =
    let is = c.in_ok-from.ensures ∙ ap (λ (l : List DeletedRange). ranges_from l c.args.at.now) c.deref-2.ensures.value in
    (subst AreRanges (sym is) (kept_from _ c.args.at.now c.self.invariant.0 c.requires), c.in_ok-from.from.ok.1)
