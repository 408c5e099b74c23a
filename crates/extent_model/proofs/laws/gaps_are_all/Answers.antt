use Rattle.extent_model.proofs.AllGaps.{largest_is_enough, first_is_first}
use Rattle.extent_model.proofs.laws.gaps_are_all.Goals as goal

pub returns : goal.returns
returns c = record { largest = largest_is_enough; first = first_is_first }
