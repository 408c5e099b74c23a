use Rattle.filter_image_model.proofs.Validity.{was_written_so}
use Rattle.filter_image_model.proofs.laws.the_image_was_written_so.Goals as goal

pub returns : goal.returns
returns c = record { law = was_written_so }
