use Rattle.filter_model.proofs.Ranges.{range_is_exact}
use Rattle.filter_model.proofs.laws.range_is_exact.Goals as goal

pub returns : goal.returns
returns c = range_is_exact
