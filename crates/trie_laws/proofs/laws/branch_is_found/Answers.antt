use Rattle.trie_laws.proofs.Found.{branch_is_found}
use Rattle.trie_laws.proofs.laws.branch_is_found.Goals as goal

pub returns : goal.returns
returns c = branch_is_found
