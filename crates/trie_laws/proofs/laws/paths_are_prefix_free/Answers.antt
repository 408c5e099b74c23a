use Rattle.trie_laws.proofs.Paths.{levels_have_nodes, paths_are_no_nodes, paths_are_prefix_free}
use Rattle.trie_laws.proofs.laws.paths_are_prefix_free.Goals as goal

pub returns : goal.returns
returns c = record { free = paths_are_prefix_free; no_nodes = paths_are_no_nodes; levels = levels_have_nodes }
