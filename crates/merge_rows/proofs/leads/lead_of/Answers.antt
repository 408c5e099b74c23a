use Rattle.std.proofs.Common.{◌∙◌}
use Rattle.merge_rows.proofs.LeadOrder.{lead_read}
use Rattle.merge_rows.proofs.leads.lead_of.Goals as goal

pub returns : goal.returns
returns c = c.read_u64.ensures ∙ lead_read c.args.key.now
