use Rattle.trie_laws.proofs.Company.{company_is_a_branch}
use Rattle.trie_laws.proofs.laws.company_is_a_branch.Goals as goal

pub returns : goal.returns
returns c = company_is_a_branch
