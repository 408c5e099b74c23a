use Rattle.whole_keys.proofs.Listed.{keys_are_listed}
use Rattle.whole_keys.proofs.laws.whole_keys_are_listed.Goals as goal

pub returns : goal.returns
returns c = keys_are_listed
