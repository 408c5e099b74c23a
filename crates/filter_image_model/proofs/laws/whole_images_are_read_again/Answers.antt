use Rattle.filter_image_model.proofs.Decided.{whole_decided}
use Rattle.filter_image_model.proofs.ImageRead.{whole_read_again}
use Rattle.filter_image_model.proofs.laws.whole_images_are_read_again.Goals as goal

pub returns : goal.returns
returns c = record { law = whole_read_again; decided = whole_decided }
