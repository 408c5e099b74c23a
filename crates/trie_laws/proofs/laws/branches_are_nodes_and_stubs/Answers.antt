use Rattle.trie_laws.proofs.Endings.{branches_are_nodes_and_stubs}
use Rattle.trie_laws.proofs.laws.branches_are_nodes_and_stubs.Goals as goal

pub returns : goal.returns
returns c = branches_are_nodes_and_stubs
