use Rattle.trie_levels.proofs.Totals.{endings_law, partings_law}
use Rattle.trie_levels.proofs.laws.levels_follow.Goals as goal

pub returns-clause-partings : goal.returns-clause-partings
returns-clause-partings c = partings_law

pub returns-clause-endings : goal.returns-clause-endings
returns-clause-endings c = endings_law
