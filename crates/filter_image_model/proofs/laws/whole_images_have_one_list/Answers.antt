use Rattle.filter_image_model.proofs.ImageRead.{one_whole_list}
use Rattle.filter_image_model.proofs.laws.whole_images_have_one_list.Goals as goal

pub returns : goal.returns
returns c = one_whole_list
