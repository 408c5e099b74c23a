use Rattle.std.proofs.Common.{◌∙◌}
use Rattle.filter_iter.proofs.branches.branch_at.Goals as goal

pub returns : goal.returns
returns g c = record { letter = c.from.ensures ∙ c.byte_at.ensures; leads = c.lead_at.ensures }
