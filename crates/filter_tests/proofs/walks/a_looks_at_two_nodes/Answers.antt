use Rattle.std.proofs.Common.{refl}
use Rattle.filter_model.specs.Trie.{is_node, path}
use Rattle.trie_model.specs.Walks.{nodes_on_way}
use Rattle.filter_tests.proofs.walks.a_looks_at_two_nodes.Goals as goal

pub returns : goal.returns
unfolding nodes_on_way is_node path
returns c = refl
