use Rattle.std.proofs.Common.{refl}
use Rattle.bit_model.specs.Numbers.{bits_of}
use Rattle.bit_model.specs.Packed.{packed}
use Rattle.filter_model.specs.Image.{image, in_slots, row, sections}
use Rattle.filter_model.specs.Nodes.{node_of, trie_of}
use Rattle.filter_model.specs.Suffixes.{packed_suffixes}
use Rattle.filter_model.specs.Examples.{far_to_toy_sparse}
use Rattle.filter_model.specs.Trie.{branches, height, is_node, is_reached, letters, level, nodes, nodes_to, path, places, slots}
use Rattle.filter_model.proofs.examples.image_of_far_to_toy.Goals as goal

pub returns-clause-sparse : goal.returns-clause-sparse
unfolding image sections packed_suffixes bits_of packed row in_slots node_of trie_of nodes nodes_to level branches is_node is_reached letters path height places slots far_to_toy_sparse
returns-clause-sparse c = refl

pub returns-clause-length_is : goal.returns-clause-length_is
unfolding far_to_toy_sparse
returns-clause-length_is c = refl
