use Rattle.std.proofs.Common.{List, ap, ◌∙◌}
use Rattle.std.specs.Prelude.{◌==◌}
use Rattle.filter_iter.proofs.LeastStrings.{own_end}
use Rattle.filter_iter.specs.CursorPath.{letters_of}
use Rattle.filter_iter.specs.declared.parts.Pass.{Pass}
use Rattle.filter_model.specs.Nodes.{last_letter}
use Rattle.filter_model.specs.Trie.{END}
use Rattle.filter_iter.proofs.cursor.FilterCursor.ends.Goals as goal

pub returns : goal.returns
returns g c = rw (← c.self.view_is) (own_end c.self.inside.trie.now.hash_bits c.self.inside.trie.now.real_bits c.self.inside.trie.now.leaves c.self.invariant.stands.valid c.self.inside.leaf c.self.inside.slot c.self.inside.way.items c.self.invariant.to c.way_ends.result (c.way_ends.ensures ∙ ap (λ (w : List Pass). last_letter (letters_of w) == END) c.as_slice.ensures))
