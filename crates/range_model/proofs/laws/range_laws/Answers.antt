use Rattle.range_model.proofs.RangeLaws.{one_range_more, ranges_are_cut}
use Rattle.range_model.proofs.laws.range_laws.Goals as goal

pub returns-clause-more : goal.returns-clause-more
returns-clause-more c = one_range_more

pub returns-clause-cut : goal.returns-clause-cut
returns-clause-cut c = ranges_are_cut
