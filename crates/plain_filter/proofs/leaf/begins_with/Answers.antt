use Rattle.std.proofs.Common.{◌∙◌}
use Rattle.plain_filter.proofs.LeafLemmas.{prefix_from_pointwise}
use Rattle.plain_filter.proofs.leaf.begins_with.Goals as goal

pub returns-clause-value : goal.returns-clause-value
returns-clause-value c = c.starts_with.ensures.value ∙ prefix_from_pointwise c.args.stub.now c.args.bytes.now
