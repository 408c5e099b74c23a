use Rattle.trie_levels.proofs.Gathered.{gathered_are_nodes}
use Rattle.trie_levels.proofs.laws.gathered_are_nodes.Goals as goal

pub returns : goal.returns
returns c = gathered_are_nodes
