use Rattle.filter_iter.proofs.LeastStrings.{own_leaf_suffix}
use Rattle.filter_iter.proofs.MetLeaves.{slot_fits}
use Rattle.filter_iter.specs.CursorPath.{letters_of}
use Rattle.filter_iter.proofs.cursor.FilterCursor.suffix.Goals as goal

pub suffix-requires : goal.suffix-requires
suffix-requires g c = slot_fits c.self.inside.trie.now.hash_bits c.self.inside.trie.now.real_bits c.self.inside.trie.now.leaves c.self.inside.slot (letters_of c.self.inside.way.items) c.self.invariant.stands.valid c.self.invariant.to.slot_is

pub returns : goal.returns
returns g c = rw (← c.self.view_is) (own_leaf_suffix c.self.inside.trie.now.hash_bits c.self.inside.trie.now.real_bits c.self.inside.trie.now.leaves c.self.invariant.stands.valid c.self.inside.leaf c.self.inside.slot c.self.inside.way.items c.self.invariant.to c.suffix.result c.suffix.ensures)
