use Rattle.filter_image_model.proofs.Decided.{decided_by}
use Rattle.filter_image_model.proofs.ImageRead.{one_list_by, read_again_by}
use Rattle.filter_image_model.proofs.Validity.{written_by}
use Rattle.filter_image_model.proofs.laws.images_of_each_kind_are_read.Goals as goal

pub returns : goal.returns
returns c = record { written = written_by; again = read_again_by; decided = decided_by; one = one_list_by }
