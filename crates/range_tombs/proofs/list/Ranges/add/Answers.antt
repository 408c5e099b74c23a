use Rattle.std.proofs.Common.{sym, subst}
use Rattle.range_model.specs.Ranges.{AreRanges}
use Rattle.range_tombs.proofs.Parts.{kept_with}
use Rattle.range_tombs.proofs.list.Ranges.add.Goals as goal

pub invariant_of-self : goal.invariant_of-self
invariant_of-self c =
    let kept = kept_with c.self.inside.list.items c.into_range.result c.self.invariant.0 c.into_range.ensures.range c.into_range.ensures.bounds in
    (subst AreRanges (sym c.add_to.ensures.added) kept, c.add_to.ensures.within)
