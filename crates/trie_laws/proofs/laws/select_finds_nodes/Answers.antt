use Rattle.trie_laws.proofs.Louds.{louds_count, louds_first, nth_one}
use Rattle.trie_laws.proofs.laws.select_finds_nodes.Goals as goal

pub returns : goal.returns
returns c = record { find = louds_first; unique = nth_one; count = louds_count }
