use Rattle.std.proofs.Common.{◌∙◌, ◌<◌, ℕ, sym, ap, subst, refl}
use Rattle.extent_map.specs.declared.extents.NoGap.{NoGap}
use Rattle.store_core.proofs.PlansMade.{first_gap_is, largest_gap_is}
use Rattle.store_core.proofs.flushing.place_for.Goals as goal

pub returns-in-Ok-clause-gap : goal.returns-in-Ok-clause-gap
returns-in-Ok-clause-gap c =
    let e = c.in_ok-extents in
    first_gap_is c.args.version.now.version c.args.outputs.now e.extents.pages e.extents.extents e.ensures.pages e.ensures.extents c.args.need ∙ c.in-Ok.ensures.gap

pub returns-clause-no_gap : goal.returns-clause-no_gap
returns-clause-no_gap c =
    let e = c.in_ok-extents in
    let largest = largest_gap_is c.args.version.now.version c.args.outputs.now e.extents.pages e.extents.extents e.ensures.pages e.ensures.extents in (
      ap (λ (f : NoGap). f.need) c.in-Err.ensures.no_gap,
      ap (λ (f : NoGap). f.largest) c.in-Err.ensures.no_gap ∙ sym largest,
      subst (λ (n : ℕ). n < c.args.need) (sym largest) (c.in-Err.ensures.exact.0 refl),
    )
