use Rattle.std.proofs.Common.{refl}
use Rattle.filter_model.specs.Trie.{branches, height, is_node, is_reached, letters, level, level_labels, level_nodes, path}
use Rattle.trie_levels.proofs.examples.chain_counts.Goals as goal

pub returns-clause-nodes : goal.returns-clause-nodes
unfolding level_nodes level branches is_node is_reached letters path height
returns-clause-nodes c = refl

pub returns-clause-labels : goal.returns-clause-labels
unfolding level_labels level branches is_node is_reached letters path height
returns-clause-labels c = refl
