use Rattle.std.proofs.Common.{ℕ, ap, arith, subst, sym, ◌∙◌, get_or, []}
use Rattle.filter_iter.proofs.Branching.{by_letter, order_small}
use Rattle.filter_iter.specs.CursorPath.{IsNextAt, leaves_before_byte}
use Rattle.filter_model.specs.Trie.{nodes}
use Rattle.filter_iter.proofs.branches.branch_behind.Goals as goal

pub branch_from-requires-clause-from : goal.branch_from-requires-clause-from
branch_from-requires-clause-from g c = omega (arith, c.order.ensures, order_small c.args.letter c.requires.letter)

pub returns : goal.returns
returns g c = subst (λ (k : ℕ). IsNextAt c.args.trie.now.leaves (get_or (nodes c.args.trie.now.leaves) c.args.node []) k c.branch_from.result) (ap (leaves_before_byte c.args.trie.now.leaves (get_or (nodes c.args.trie.now.leaves) c.args.node [])) c.order.ensures ∙ sym (by_letter c.args.trie.now.hash_bits c.args.trie.now.real_bits c.args.trie.now.leaves c.requires.stands.valid c.args.node c.requires.node c.args.letter c.requires.letter)) c.branch_from.ensures
