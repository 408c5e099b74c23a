use Rattle.std.proofs.Common.{◌+◌, ◌++◌, ◌∷◌, [], List, ℕ, arith, subst, sym}
use Rattle.std.proofs.lemmas.List.{length-append, take-append-le, take_all}
use Rattle.filter_iter.specs.Borders.{IsStepBy}
use Rattle.filter_model.specs.Trie.{END}
use Rattle.filter_iter.proofs.reaching.step_on.Goals as goal

pub returns-then-level-bound-clause-step : goal.returns-then-level-bound-clause-step
returns-then-level-bound-clause-step g c =
    subst (λ (q : List ℕ). IsStepBy c.args.trie.now.leaves q (c.args.level + 1) c.step_by.result) (sym (take-append-le (c.args.level + 1) c.args.bound.now (END ∷ []) (omega (arith, c.if-level-bound.true)))) c.step_by.ensures.step

pub returns-else-level-bound-clause-step : goal.returns-else-level-bound-clause-step
returns-else-level-bound-clause-step g c =
    subst (λ (q : List ℕ). IsStepBy c.args.trie.now.leaves q (c.args.level + 1) c.step_behind.result)
    (sym (take_all (c.args.level + 1) (c.args.bound.now ++ END ∷ []) (omega (arith, length-append c.args.bound.now (END ∷ []), c.if-level-bound.false)))) c.step_behind.ensures.step
