use Rattle.std.proofs.Common.{ap, sym, ◌∙◌, ◌+◌, ◌∷◌, take, List, ℕ}
use Rattle.std.specs.Prelude.{◌==◌}
use Rattle.std.specs.List.{slice_split}
use Rattle.store_commands.proofs.Cuts.{behind, cut_there, cut_nowhere}
use Rattle.store_commands.proofs.words.cut.Goals as goal

pub returns-in-Some-clause-words : goal.returns-in-Some-clause-words
returns-in-Some-clause-words c =
    cut_there 32 c.args.text.now c.in-Some.at c.in-Some.ensures.0 c.in-Some.ensures.1
    ∙ ap (λ (l : List ℕ). take c.in-Some.at c.args.text.now ∷ slice_split (λ x. x == 32) l) (sym (behind c.args.text.now (c.in-Some.at + 1)))

pub returns-in-None-clause-words : goal.returns-in-None-clause-words
returns-in-None-clause-words c = cut_nowhere 32 c.args.text.now c.in-None.ensures
