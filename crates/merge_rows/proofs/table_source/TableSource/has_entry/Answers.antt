use Rattle.std.proofs.Common.{ap, ◌∙◌}
use Rattle.std.specs.Prelude.{is_some}
use Rattle.merge_rows.specs.Merges.{TableWalk}
use Rattle.merge_rows.proofs.LeadOrder.{lead_some}
use Rattle.merge_rows.proofs.table_source.TableSource.has_entry.Goals as goal

pub returns-then-self-ne0 : goal.returns-then-self-ne0
returns-then-self-ne0 c = lead_some c.self.inside.walk.now c.self.inside.lead c.self.invariant.0 c.if-self-ne0.true ∙ ap (λ (w : TableWalk). is_some w.walk.now) c.self.view_is
