use Rattle.std.proofs.Common.{◌∙◌}
use Rattle.merge_rows.proofs.LeadOrder.{lead_alike}
use Rattle.merge_rows.proofs.leads.compare_alike.Goals as goal

pub returns-then-other-le-LEAD_BYTES : goal.returns-then-other-le-LEAD_BYTES
returns-then-other-le-LEAD_BYTES c =
    c.cmp.ensures
    ∙ lead_alike c.args.one.now c.args.other.now (λ i. (c.type_inv.one i).fits) (λ i. (c.type_inv.other i).fits)
    c.if-one-le-LEAD_BYTES.true c.if-other-le-LEAD_BYTES.true c.requires
