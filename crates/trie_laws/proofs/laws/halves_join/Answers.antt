use Rattle.trie_laws.proofs.Joining.{halves_join, second_half_counts_on}
use Rattle.trie_laws.proofs.laws.halves_join.Goals as goal

pub returns : goal.returns
returns c = record { places = halves_join; numbers = second_half_counts_on }
