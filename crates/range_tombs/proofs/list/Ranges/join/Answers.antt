use Rattle.std.proofs.Common.{List, fold, sym, subst, ap, ◌∙◌}
use Rattle.range_model.specs.Ranges.{AreRanges, DeletedRange, with_range}
use Rattle.range_tombs.proofs.Parts.{kept_all}
use Rattle.range_tombs.proofs.list.Ranges.join.Goals as goal

pub invariant_of-self-2 : goal.invariant_of-self-2
invariant_of-self-2 c =
    let added = c.add_all.ensures.added ∙ ap (λ (l : List DeletedRange). fold with_range l c.in_ok-copies.copies.items) c.reserve.ensures.items in
    let copied = c.in_ok-copies.ensures ∙ c.deref.ensures.value in
    let are = subst (λ (l : List DeletedRange). AreRanges (fold with_range c.self.inside.list.items l)) (sym copied) (kept_all _ _ c.self.invariant.0 c.other.invariant.0.are c.other.invariant.0.bounds) in
    (subst AreRanges (sym added) are, c.add_all.ensures.within)
