use Rattle.filter_trie.proofs.KeyOrder.{leaves_are_counted, slots_are_leaves}
use Rattle.filter_trie.proofs.laws.leaves_are_counted.Goals as goal

pub returns-clause-branches : goal.returns-clause-branches
returns-clause-branches c = leaves_are_counted

pub returns-clause-slots : goal.returns-clause-slots
returns-clause-slots c = slots_are_leaves
