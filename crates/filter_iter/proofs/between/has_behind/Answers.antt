use Rattle.std.proofs.Common.{ℕ, ◌++◌, ◌∷◌, [], get_or, subst, ◌∙◌}
use Rattle.filter_iter.proofs.Sides.{behind_is}
use Rattle.filter_iter.specs.CursorPath.{IsNextAt, leaves_to}
use Rattle.filter_model.specs.Trie.{nodes}
use Rattle.filter_iter.proofs.between.has_behind.Goals as goal

pub returns-clause-order : goal.returns-clause-order
returns-clause-order g c = (behind_is c.args.trie.now.hash_bits c.args.trie.now.real_bits c.args.trie.now.leaves c.requires.stands.valid c.requires.stands.real_width c.args.node c.args.byte c.branch_behind.result (subst (λ (x : ℕ). IsNextAt c.args.trie.now.leaves (get_or (nodes c.args.trie.now.leaves) c.args.node []) (leaves_to c.args.trie.now.leaves ((get_or (nodes c.args.trie.now.leaves) c.args.node []) ++ x ∷ [])) c.branch_behind.result) c.from.ensures c.branch_behind.ensures)).0

pub returns-clause-behind : goal.returns-clause-behind
returns-clause-behind g c = c.is_some.ensures ∙ (behind_is c.args.trie.now.hash_bits c.args.trie.now.real_bits c.args.trie.now.leaves c.requires.stands.valid c.requires.stands.real_width c.args.node c.args.byte c.branch_behind.result (subst (λ (x : ℕ). IsNextAt c.args.trie.now.leaves (get_or (nodes c.args.trie.now.leaves) c.args.node []) (leaves_to c.args.trie.now.leaves ((get_or (nodes c.args.trie.now.leaves) c.args.node []) ++ x ∷ [])) c.branch_behind.result) c.from.ensures c.branch_behind.ensures)).1
