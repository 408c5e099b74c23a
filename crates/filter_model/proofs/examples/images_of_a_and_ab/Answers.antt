use Rattle.std.proofs.Common.{refl}
use Rattle.bit_model.specs.Numbers.{bits_of}
use Rattle.bit_model.specs.Packed.{packed}
use Rattle.filter_model.specs.Image.{image, in_slots, row, sections}
use Rattle.filter_model.specs.Nodes.{node_of, trie_of}
use Rattle.filter_model.specs.Suffixes.{packed_suffixes}
use Rattle.filter_model.specs.Examples.{a_ab_dense, a_ab_root_dense, a_ab_sparse}
use Rattle.filter_model.specs.Trie.{branches, height, is_node, is_reached, letters, level, nodes, nodes_to, path, places, slots}
use Rattle.filter_model.proofs.examples.images_of_a_and_ab.Goals as goal

pub returns-clause-sparse : goal.returns-clause-sparse
unfolding image sections packed_suffixes bits_of packed row in_slots node_of trie_of nodes nodes_to level branches is_node is_reached letters path height places slots a_ab_sparse
returns-clause-sparse c = refl

pub returns-clause-root_dense : goal.returns-clause-root_dense
unfolding image sections packed_suffixes bits_of packed row in_slots node_of trie_of nodes nodes_to level branches is_node is_reached letters path height places slots a_ab_root_dense
returns-clause-root_dense c = refl

pub returns-clause-dense : goal.returns-clause-dense
unfolding image sections packed_suffixes bits_of packed row in_slots node_of trie_of nodes nodes_to level branches is_node is_reached letters path height places slots a_ab_dense
returns-clause-dense c = refl

pub returns-clause-lengths : goal.returns-clause-lengths
unfolding a_ab_sparse a_ab_root_dense a_ab_dense
returns-clause-lengths c = refl
