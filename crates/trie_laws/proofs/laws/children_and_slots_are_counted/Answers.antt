use Rattle.trie_laws.proofs.NodeLists.{nodes_is}
use Rattle.trie_laws.proofs.Places.{child-trie_of, slot-counted}
use Rattle.trie_laws.proofs.laws.children_and_slots_are_counted.Goals as goal

pub returns : goal.returns
returns c = record { nodes = nodes_is; child = child-trie_of; slot = slot-counted }
