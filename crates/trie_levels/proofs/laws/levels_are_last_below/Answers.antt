use Rattle.trie_levels.proofs.LastBelow.{branches_are_last, nodes_are_last}
use Rattle.trie_levels.proofs.laws.levels_are_last_below.Goals as goal

pub returns-clause-nodes : goal.returns-clause-nodes
returns-clause-nodes c = nodes_are_last

pub returns-clause-branches : goal.returns-clause-branches
returns-clause-branches c = branches_are_last
