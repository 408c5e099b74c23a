use Rattle.filter_model.proofs.Validity.{leaves_are_valid, nodes_branch}
use Rattle.filter_model.proofs.laws.leaves_are_valid.Goals as goal

pub returns : goal.returns
returns c = record { valid = leaves_are_valid; branches = nodes_branch }
