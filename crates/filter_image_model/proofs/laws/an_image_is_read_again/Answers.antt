use Rattle.filter_image_model.proofs.Decided.{image_decided}
use Rattle.filter_image_model.proofs.ImageRead.{read_again}
use Rattle.filter_image_model.proofs.laws.an_image_is_read_again.Goals as goal

pub returns : goal.returns
returns c = record { law = read_again; decided = image_decided }
