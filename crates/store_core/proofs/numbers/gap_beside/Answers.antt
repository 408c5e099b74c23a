use Rattle.std.proofs.Common.{◌∙◌, sym, ap}
use Rattle.extent_map.specs.declared.extents.NoGap.{NoGap}
use Rattle.store_core.proofs.PlansMade.{largest_gap_is}
use Rattle.store_core.proofs.numbers.gap_beside.Goals as goal

pub returns : goal.returns
returns c =
    let e = c.in_ok-extents in
    let largest = largest_gap_is c.args.version.now.version c.args.outputs.now e.extents.pages e.extents.extents e.ensures.pages e.ensures.extents in
    ap (λ (f : NoGap). f.largest) c.in-Err.ensures.no_gap ∙ sym largest
