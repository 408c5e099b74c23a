use Rattle.std.proofs.Common.{ap, ◌∙◌, not}
use Rattle.merge_rows.specs.Merges.{TableWalk}
use Rattle.merge_rows.specs.Reads.{is_used_up}
use Rattle.merge_rows.proofs.LeadOrder.{lead_ready}
use Rattle.merge_rows.proofs.table_source.TableSource.is_ready.Goals as goal

pub returns-then-passed-self : goal.returns-then-passed-self
returns-then-passed-self c =
    lead_ready c.args.floor.now c.self.inside.walk.now c.lead-passed.result c.self.inside.lead
    c.lead-passed.ensures.bytes c.self.invariant.1 c.lead-passed.ensures.lead c.self.invariant.0 c.if-passed-self.true
    ∙ ap (λ (w : TableWalk). not (is_used_up c.args.floor.now w.walk.now)) c.self.view_is
