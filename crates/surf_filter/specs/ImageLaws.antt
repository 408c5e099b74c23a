-- The image as the spelling of a filter: it is that of one list, and of any bytes it can be told whether they are one.
use Rattle.filter_api.specs.Spellings.{IsDecided, SpellsOne}
use Rattle.filter_image_model.proofs.Decided.{image_decided}
use Rattle.filter_image_model.proofs.OneImage.{spells_one}
use Rattle.filter_model.specs.Image.{image}

pub one_list : SpellsOne image
one_list = spells_one

pub told_of_any : IsDecided image
told_of_any = image_decided
