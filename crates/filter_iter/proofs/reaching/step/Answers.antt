use Rattle.std.proofs.Common.{◌+◌, subst, sym, ◌∙◌}
use Rattle.filter_iter.proofs.Bounds.{few_before, has_left, not_so}
use Rattle.filter_iter.proofs.Steps.{below_border, room}
use Rattle.filter_iter.specs.Borders.{IsDescent}
use Rattle.filter_trie.specs.Places.{trie}
use Rattle.trie_model.specs.Halves.{begin_of}
use Rattle.filter_iter.proofs.reaching.step.Goals as goal

pub below-requires-clause-node : goal.below-requires-clause-node
below-requires-clause-node g c = c.requires.descent.border.within

pub below-requires-clause-room : goal.below-requires-clause-room
below-requires-clause-room g c =
    room c.args.trie.now.hash_bits c.args.trie.now.real_bits c.args.trie.now.leaves c.requires.stands.valid c.args.level (begin_of (trie c.args.trie.now) c.args.descent.border.node) c.args.descent.border c.requires.descent.border
    (few_before c.args.trie.now.hash_bits c.args.trie.now.real_bits c.args.trie.now.leaves c.requires.stands.valid c.args.bound.now c.args.level c.args.descent (c.requires.descent.left (not_so c.args.descent.leads c.if-not-descent.true)))

pub returns-then-not-descent : goal.returns-then-not-descent
returns-then-not-descent g c =
    let left = c.requires.descent.left (not_so c.args.descent.leads c.if-not-descent.true) in
    let b = below_border c.args.trie.now.hash_bits c.args.trie.now.real_bits c.args.trie.now.leaves c.requires.stands.valid c.args.level c.args.descent.border c.below.result c.requires.descent.border c.requires.level c.below.ensures.node c.below.ensures.sum in
    subst (IsDescent c.args.trie.now.leaves c.args.bound.now (c.args.level + 1)) (sym c.left.ensures) (has_left c.args.trie.now.hash_bits c.args.trie.now.real_bits c.args.trie.now.leaves c.requires.stands.valid c.args.bound.now (c.args.level + 1) c.below.result c.args.descent.leaf b.0 (b.1 ∙ left.before) left.reached)
