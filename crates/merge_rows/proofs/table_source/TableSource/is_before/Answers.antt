use Rattle.std.proofs.Common.{ap₂, ◌∙◌}
use Rattle.key_base.specs.ByteOrder.{is_before}
use Rattle.merge_rows.specs.Leads.{key_at_hand}
use Rattle.merge_rows.specs.Merges.{TableWalk}
use Rattle.merge_rows.proofs.LeadOrder.{lead_decides}
use Rattle.merge_rows.proofs.table_source.TableSource.is_before.Goals as goal

pub returns-then-self-other : goal.returns-then-self-other
returns-then-self-other c =
    lead_decides (key_at_hand c.self.inside.walk.now) (key_at_hand c.other.inside.walk.now) c.self.inside.lead c.other.inside.lead
    c.self.invariant.1 c.other.invariant.1 c.self.invariant.0 c.other.invariant.0 c.if-self-other.true
    ∙ ap₂ (λ (v w : TableWalk). is_before (key_at_hand v.walk.now) (key_at_hand w.walk.now)) c.self.view_is c.other.view_is
