use Rattle.std.proofs.Common.{refl}
use Rattle.filter_model.specs.Trie.{branches, height, is_node, is_reached, letters, level, level_labels, level_nodes, nodes, nodes_to, path}
use Rattle.filter_model.proofs.examples.far_to_toy_trie.Goals as goal

pub returns-clause-by_length_then_bytes : goal.returns-clause-by_length_then_bytes
unfolding nodes nodes_to level branches is_node is_reached letters path height
returns-clause-by_length_then_bytes c = refl

pub returns-clause-nodes_of_levels : goal.returns-clause-nodes_of_levels
unfolding level_nodes level branches is_node is_reached letters path height
returns-clause-nodes_of_levels c = refl

pub returns-clause-labels_of_levels : goal.returns-clause-labels_of_levels
unfolding level_labels level branches is_node is_reached letters path height
returns-clause-labels_of_levels c = refl
