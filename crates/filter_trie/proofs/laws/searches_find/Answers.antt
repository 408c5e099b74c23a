use Rattle.filter_trie.proofs.Finding.{searches_find}
use Rattle.filter_trie.proofs.laws.searches_find.Goals as goal

pub returns : goal.returns
returns c = searches_find
