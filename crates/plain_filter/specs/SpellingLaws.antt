-- The plain spelling: it is that of one list, and of any bytes it can be told whether they are one.
use Rattle.filter_api.specs.Spellings.{IsDecided, SpellsOne}
use Rattle.plain_filter_model.proofs.DecidedLaws.{plain_decided}
use Rattle.plain_filter_model.proofs.ExactLaws.{plain_spells_one}
use Rattle.plain_filter_model.specs.Spelling.{plain_spelling}

pub one_list : SpellsOne plain_spelling
one_list = plain_spells_one

pub told_of_any : IsDecided plain_spelling
told_of_any = plain_decided
