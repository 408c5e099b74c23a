use Rattle.filter_model.proofs.Differences.{first_difference_is_exact}
use Rattle.filter_model.proofs.laws.first_difference_is_exact.Goals as goal

pub returns : goal.returns
returns c = first_difference_is_exact
