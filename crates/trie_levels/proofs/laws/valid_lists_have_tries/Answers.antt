use Rattle.trie_levels.proofs.Totals.{valid_lists_have_tries}
use Rattle.trie_levels.proofs.laws.valid_lists_have_tries.Goals as goal

pub returns : goal.returns
returns c = valid_lists_have_tries
