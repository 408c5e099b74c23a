use Rattle.filter_image_model.proofs.Validity.{whole_was_written_so}
use Rattle.filter_image_model.proofs.laws.whole_images_were_written_so.Goals as goal

pub returns : goal.returns
returns c = record { law = whole_was_written_so }
