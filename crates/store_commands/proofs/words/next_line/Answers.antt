use Rattle.std.proofs.Common.{◌∙◌, ◌+◌, ◌++◌, ◌∷◌, ap, sym, take, List, ℕ}
use Rattle.std.proofs.lemmas.Bool.{eqb-true}
use Rattle.store_commands.proofs.Cuts.{behind, split_there, none_before, none_is}
use Rattle.store_commands.proofs.words.next_line.Goals as goal

pub returns-in-Some-clause-found : goal.returns-in-Some-clause-found
returns-in-Some-clause-found c =
    let text = c.args.text.now in
    let at = c.in-Some.at in (
      split_there 10 text at c.in-Some.ensures.0.high (eqb-true _ 10 c.in-Some.ensures.1) ∙ ap (λ (l : List ℕ). take at text ++ 10 ∷ l) (sym (behind text (at + 1))),
      none_before 10 text at c.in-Some.ensures.0,
    )

pub returns-in-None-clause-none : goal.returns-in-None-clause-none
returns-in-None-clause-none c = none_is 10 c.args.text.now c.in-None.ensures
