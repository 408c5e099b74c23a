use Rattle.std.proofs.Common.{◌≡◌, ℕ, Some, ap, subst, ◌∙◌, ◌++◌, ◌∷◌, [], get_or, nat_lt}
use Rattle.filter_iter.proofs.Sides.{between_is, between_order, none_is}
use Rattle.filter_iter.specs.CursorPath.{IsNextAt, leaves_to}
use Rattle.filter_model.specs.Trie.{nodes}
use Rattle.filter_iter.proofs.between.has_between.Goals as goal

pub returns-in-Some-clause-order : goal.returns-in-Some-clause-order
returns-in-Some-clause-order g c = between_order c.args.trie.now.hash_bits c.args.trie.now.real_bits c.args.trie.now.leaves c.requires.stands.valid c.requires.stands.real_width c.args.node c.requires.node c.args.from c.args.to c.requires.order c.ranges.to.fits

pub returns-in-None-clause-order : goal.returns-in-None-clause-order
returns-in-None-clause-order g c = between_order c.args.trie.now.hash_bits c.args.trie.now.real_bits c.args.trie.now.leaves c.requires.stands.valid c.requires.stands.real_width c.args.node c.requires.node c.args.from c.args.to c.requires.order c.ranges.to.fits

pub returns-in-Some-clause-between : goal.returns-in-Some-clause-between
returns-in-Some-clause-between g c = let e : IsNextAt c.args.trie.now.leaves (get_or (nodes c.args.trie.now.leaves) c.args.node []) (leaves_to c.args.trie.now.leaves ((get_or (nodes c.args.trie.now.leaves) c.args.node []) ++ c.args.from ∷ [])) (Some c.in-Some.branch) = (subst (λ (x : ℕ). IsNextAt c.args.trie.now.leaves (get_or (nodes c.args.trie.now.leaves) c.args.node []) (leaves_to c.args.trie.now.leaves ((get_or (nodes c.args.trie.now.leaves) c.args.node []) ++ x ∷ [])) (Some c.in-Some.branch)) c.from.ensures c.in-Some.ensures) in ap (nat_lt c.in-Some.branch.letter) c.from-in-Some.ensures ∙ between_is c.args.trie.now.hash_bits c.args.trie.now.real_bits c.args.trie.now.leaves c.requires.stands.valid c.requires.stands.real_width c.args.node c.requires.node c.args.from c.args.to c.requires.order c.ranges.to.fits c.in-Some.branch e.0 e.1 e.2

pub returns-in-None-clause-between : goal.returns-in-None-clause-between
returns-in-None-clause-between g c = none_is c.args.trie.now.hash_bits c.args.trie.now.real_bits c.args.trie.now.leaves c.requires.stands.valid c.requires.stands.real_width c.args.node c.requires.node c.args.from c.args.to c.requires.order c.ranges.to.fits (subst (λ (x : ℕ). leaves_to c.args.trie.now.leaves (get_or (nodes c.args.trie.now.leaves) c.args.node []) ≡ leaves_to c.args.trie.now.leaves ((get_or (nodes c.args.trie.now.leaves) c.args.node []) ++ x ∷ [])) c.from.ensures c.in-None.ensures)
