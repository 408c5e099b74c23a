use Rattle.filter_model.proofs.Validity.{valid_lists_are_leaf_lists}
use Rattle.filter_model.proofs.laws.valid_lists_are_leaf_lists.Goals as goal

pub returns : goal.returns
returns c = valid_lists_are_leaf_lists
