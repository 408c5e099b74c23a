use Rattle.trie_laws.proofs.Slots.{leaves_have_slots}
use Rattle.trie_laws.proofs.laws.leaves_have_slots.Goals as goal

pub returns : goal.returns
returns c = leaves_have_slots
