use Rattle.filter_image_model.proofs.OneImage.{spells_one}
use Rattle.filter_image_model.proofs.SameLeaves.{one_list}
use Rattle.filter_image_model.proofs.laws.an_image_has_one_list.Goals as goal

pub returns : goal.returns
returns c = record { trie = one_list; image = spells_one }
