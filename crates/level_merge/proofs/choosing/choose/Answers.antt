use Rattle.std.proofs.Common.{◌≡◌, List, sym, ap, subst, ◌∙◌}
use Rattle.std.specs.Option.{option_map}
use Rattle.std.specs.Prelude.{IfOk, IfSome, Option, Result}
use Rattle.std.specs.declared.alloc.AllocError.{AllocError}
use Rattle.std.proofs.lemmas.Result.{IfOk-weaker}
use Rattle.level_merge.specs.Outlines.{by_numbers, outlines}
use Rattle.level_merge.specs.Plans.{IsPlanOf, MayStart, PlanByNumbers}
use Rattle.level_merge.proofs.Choices.{choice_starts, states_choice}
use Rattle.state_model.specs.Merges.{choose}
use Rattle.table_file.specs.Opened.{Opened}
use Rattle.level_merge.proofs.choosing.choose.Goals as goal

-- what is so of the choice among the outlines is so of what was chosen
passes : (opened slice : List Opened) (Q : Option PlanByNumbers → Type 0) (r : Result (Option PlanByNumbers) AllocError) → slice ≡ opened → Q (option_map by_numbers (choose (outlines opened)))
    → IfOk r (λ plan. plan ≡ option_map by_numbers (choose (outlines slice))) → IfOk r Q
passes opened slice Q r same q said = IfOk-weaker r (λ plan. plan ≡ option_map by_numbers (choose (outlines slice))) Q
    (λ plan e. subst Q (sym (e ∙ ap (λ ts. option_map by_numbers (choose (outlines ts))) same)) q) said

pub returns : goal.returns
returns g c =
    let opened = c.args.tables.now.tables in
    let slice = c.as_slice.result.now in
    record {
      chosen = λ of_state agree. passes opened slice (λ plan. IsPlanOf of_state plan (choose of_state)) c.chosen.result c.as_slice.ensures (states_choice opened of_state agree) c.chosen.ensures;
      starts = passes opened slice (λ plan. IfSome plan (MayStart opened)) c.chosen.result c.as_slice.ensures (choice_starts opened) c.chosen.ensures;
    }
