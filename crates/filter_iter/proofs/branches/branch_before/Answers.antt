use Rattle.std.proofs.Common.{ℕ, ap, arith, subst, sym, ◌∙◌, ◌++◌, ◌∷◌, get_or, []}
use Rattle.filter_iter.proofs.Branching.{by_low, first_end}
use Rattle.filter_iter.specs.CursorPath.{IsPrevAt}
use Rattle.filter_model.specs.Trie.{nodes}
use Rattle.trie_model.specs.Rests.{first_leaf}
use Rattle.filter_iter.proofs.branches.branch_before.Goals as goal

pub returns-then-letter-eq-END_LETTER : goal.returns-then-letter-eq-END_LETTER
returns-then-letter-eq-END_LETTER g c = sym (ap (λ (x : ℕ). first_leaf c.args.trie.now.leaves (get_or (nodes c.args.trie.now.leaves) c.args.node [] ++ x ∷ [])) c.if-letter-eq-END_LETTER.true ∙ first_end c.args.trie.now.hash_bits c.args.trie.now.real_bits c.args.trie.now.leaves c.requires.stands.valid c.args.node c.requires.node)

pub returns-else-letter-eq-END_LETTER : goal.returns-else-letter-eq-END_LETTER
returns-else-letter-eq-END_LETTER g c = subst (λ (k : ℕ). IsPrevAt c.args.trie.now.leaves (get_or (nodes c.args.trie.now.leaves) c.args.node []) k c.branch_below.result) (by_low c.args.trie.now.hash_bits c.args.trie.now.real_bits c.args.trie.now.leaves c.requires.stands.valid c.args.node c.requires.node c.args.letter (omega (arith, c.requires.letter, c.if-letter-eq-END_LETTER.false))) c.branch_below.ensures
