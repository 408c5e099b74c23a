use Rattle.std.proofs.Common.{ap, sym, ◌∙◌}
use Rattle.filter_iter.proofs.Starts.{none_before_dense}
use Rattle.filter_trie.specs.Places.{branch_number, trie as trie_in}
use Rattle.filter_trie.specs.declared.place.Place.{Place}
use Rattle.trie_model.specs.Halves.{Half, slot_at}
use Rattle.trie_model.specs.declared.parts.Before.{Before}
use Rattle.filter_iter.proofs.borders.before.Goals as goal

pub returns-then-before-eq0-clause-slots : goal.returns-then-before-eq0-clause-slots
returns-then-before-eq0-clause-slots g c =
    let none = sym (ap (λ (b : Before). b.slots) (c.before-in-Dense.ensures ∙ ap (λ (h : Half). h.before) c.sparse.ensures)) ∙ c.if-before-eq0.true in
    sym (ap (λ (p : Place). slot_at (trie_in c.args.trie.now) (branch_number c.args.trie.now p)) c.in-Dense.is ∙ none_before_dense c.args.trie.now c.in-Dense.field-0 c.requires.stands none)
