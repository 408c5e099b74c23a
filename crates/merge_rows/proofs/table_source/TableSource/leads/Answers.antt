use Rattle.std.proofs.Common.{◌≡◌, false, subst}
use Rattle.merge_rows.specs.Merges.{TableWalk}
use Rattle.merge_rows.specs.Reads.{is_used_up}
use Rattle.merge_rows.proofs.LeadOrder.{lead_clear}
use Rattle.merge_rows.proofs.table_source.TableSource.leads.Goals as goal

pub returns : goal.returns
returns c above =
    subst (λ (w : TableWalk). is_used_up c.args.floor.now w.walk.now ≡ false) c.self.view_is
    (lead_clear c.args.floor.now c.self.inside.walk.now c.lead.result c.self.inside.lead c.lead.ensures.bytes c.self.invariant.1 c.lead.ensures.lead c.self.invariant.0 above)
