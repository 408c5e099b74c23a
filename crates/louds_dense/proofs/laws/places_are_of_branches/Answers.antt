use Rattle.louds_dense.proofs.Branches.{places_are_of_branches}
use Rattle.louds_dense.proofs.laws.places_are_of_branches.Goals as goal

pub returns : goal.returns
returns c = places_are_of_branches
