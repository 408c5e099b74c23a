use Rattle.filter_trie.proofs.Finding.{branches_lead}
use Rattle.filter_trie.proofs.laws.branches_lead.Goals as goal

pub returns : goal.returns
returns c = branches_lead
