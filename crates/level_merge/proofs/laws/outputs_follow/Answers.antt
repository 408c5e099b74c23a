use Rattle.level_merge.proofs.OutputLists.{none_built}
use Rattle.level_merge.proofs.laws.outputs_follow.Goals as goal

pub returns : goal.returns
returns c = none_built
