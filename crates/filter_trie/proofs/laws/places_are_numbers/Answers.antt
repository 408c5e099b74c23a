use Rattle.filter_trie.proofs.PlaceLaws.{places_are_numbers, places_are_within}
use Rattle.filter_trie.proofs.laws.places_are_numbers.Goals as goal

pub returns-clause-within : goal.returns-clause-within
returns-clause-within c = places_are_within

pub returns-clause-number : goal.returns-clause-number
returns-clause-number c = places_are_numbers
