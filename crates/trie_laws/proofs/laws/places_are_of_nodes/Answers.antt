use Rattle.trie_laws.proofs.Places.{place_in, place_of}
use Rattle.trie_laws.proofs.laws.places_are_of_nodes.Goals as goal

pub returns : goal.returns
returns c = record { place = place_in; letter = λ ls v d l h e. let found = place_of ls v d l h e in (found.0, (found.1, found.2, found.3)) }
