use Rattle.trie_levels.proofs.ByLength.{slots_by_length}
use Rattle.trie_levels.proofs.laws.slots_go_by_length.Goals as goal

pub returns : goal.returns
returns c = slots_by_length
