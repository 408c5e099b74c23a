use Rattle.filter_model.proofs.OfKeys.{valid_lists_come_of_keys}
use Rattle.filter_model.proofs.laws.valid_lists_come_of_keys.Goals as goal

pub returns : goal.returns
returns c = valid_lists_come_of_keys
