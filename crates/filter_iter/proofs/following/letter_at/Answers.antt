use Rattle.std.proofs.Common.{◌∷◌, [], ◌∙◌, arith, sym}
use Rattle.std.proofs.Math.ListN.{get_or-append}
use Rattle.std.proofs.lemmas.List.{get_or_push}
use Rattle.filter_model.specs.Trie.{END}
use Rattle.filter_iter.proofs.following.letter_at.Goals as goal

pub returns-then-level-bound-clause-letter : goal.returns-then-level-bound-clause-letter
returns-then-level-bound-clause-letter c = c.from.ensures ∙ sym (get_or-append c.args.bound.now (END ∷ []) 0 c.args.level (omega (arith, c.if-level-bound.true)))

pub returns-else-level-bound-clause-letter : goal.returns-else-level-bound-clause-letter
returns-else-level-bound-clause-letter c = sym (get_or_push c.args.bound.now END 0 c.args.level (omega (arith, c.if-level-bound.false, c.requires)))
