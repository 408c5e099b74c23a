use Rattle.filter_image_model.proofs.Written.{sections_written}
use Rattle.filter_image_model.proofs.ReadAgain.{sections_again}
use Rattle.filter_image_model.proofs.laws.sections_have_one_spelling.Goals as goal

pub returns : goal.returns
returns c = record { written = sections_written; again = sections_again }
