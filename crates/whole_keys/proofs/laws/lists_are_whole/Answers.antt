use Rattle.whole_keys.proofs.Listed.{lists_are_whole}
use Rattle.whole_keys.proofs.laws.lists_are_whole.Goals as goal

pub returns : goal.returns
returns c = lists_are_whole
