use Rattle.std.proofs.Common.{refl}
use Rattle.filter_model.specs.Trie.{path}
use Rattle.trie_levels.proofs.examples.far_to_toy_counts.Goals as goal

pub returns-clause-endings : goal.returns-clause-endings
unfolding path
returns-clause-endings c = refl
