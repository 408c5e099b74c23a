use Rattle.filter_iter.proofs.Steps.{leaves_are_counted_by_levels}
use Rattle.filter_iter.proofs.laws.leaves_are_counted_by_levels.Goals as goal

pub returns : goal.returns
returns c = leaves_are_counted_by_levels
