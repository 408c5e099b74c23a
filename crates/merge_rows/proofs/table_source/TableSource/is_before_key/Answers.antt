use Rattle.std.proofs.Common.{ap, ◌∙◌}
use Rattle.key_base.specs.ByteOrder.{is_before}
use Rattle.merge_rows.specs.Leads.{key_at_hand}
use Rattle.merge_rows.specs.Merges.{TableWalk}
use Rattle.merge_rows.proofs.LeadOrder.{lead_decides}
use Rattle.merge_rows.proofs.table_source.TableSource.is_before_key.Goals as goal

pub returns-then-self-lead : goal.returns-then-self-lead
returns-then-self-lead c =
    lead_decides (key_at_hand c.self.inside.walk.now) c.args.other.now c.self.inside.lead c.lead_of-lead.result
    c.self.invariant.1 (λ i. (c.type_inv.other i).fits) c.self.invariant.0 c.lead_of-lead.ensures c.if-self-lead.true
    ∙ ap (λ (w : TableWalk). is_before (key_at_hand w.walk.now) c.args.other.now) c.self.view_is
