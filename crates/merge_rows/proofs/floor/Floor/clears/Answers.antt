use Rattle.std.proofs.Common.{ap, ◌∙◌}
use Rattle.merge_rows.specs.Rows.{KeyFloor, clears}
use Rattle.merge_rows.proofs.LeadOrder.{lead_clears}
use Rattle.merge_rows.proofs.floor.Floor.clears.Goals as goal

pub returns-then-self-lead : goal.returns-then-self-lead
returns-then-self-lead c =
    let key = c.args.key.now in
    lead_clears (record { key = c.self.inside.key.items; passed = c.self.inside.passed }) key c.self.inside.lead c.lead_of-lead.result
    c.self.invariant.2 (λ i. (c.type_inv.key i).fits) c.self.invariant.1 c.lead_of-lead.ensures c.if-self-lead.true
    ∙ ap (λ (f : KeyFloor). clears f key) c.self.view_is
