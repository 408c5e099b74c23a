use Rattle.plain_filter_model.proofs.DecidedLaws.{plain_decided}
use Rattle.plain_filter_model.proofs.ExactLaws.{plain_spells_one}
use Rattle.plain_filter_model.proofs.laws.one_list_is_spelled.Goals as goal

pub returns : goal.returns
returns c = record { one = plain_spells_one; decided = plain_decided }
