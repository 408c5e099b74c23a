use Rattle.filter_model.proofs.Seeks.{nothing_before_first, ranged_by_first, seeks_are_near}
use Rattle.filter_model.proofs.laws.seeks_are_near.Goals as goal

pub returns : goal.returns
returns c = record { keys = seeks_are_near; before = nothing_before_first; ranges = ranged_by_first }
