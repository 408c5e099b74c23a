use Rattle.std.proofs.Common.{sym}
use Rattle.filter_model.proofs.Differences.{no_difference}
use Rattle.surf_filter.proofs.difference.first_difference.Goals as goal

pub returns-then-have_one_image : goal.returns-then-have_one_image
returns-then-have_one_image c = sym (no_difference _ _ (c.have_one_image.ensures c.if-have_one_image.true))
