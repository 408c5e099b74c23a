use Rattle.filter_model.proofs.LeastStrings.{least_strings_fit, no_key_before_least}
use Rattle.filter_model.proofs.laws.least_strings_fit.Goals as goal

pub returns : goal.returns
returns c = record { leaves = least_strings_fit; keys = no_key_before_least }
