use Rattle.std.proofs.Common.{◌∙◌, ap, subst}
use Rattle.std.specs.Prelude.{IfSome, Option}
use Rattle.image_model.specs.Stands.{settings_of}
use Rattle.level_merge.specs.JobValue.{begun}
use Rattle.level_merge.specs.Plans.{IsPlanOf, MayStart, PlanByNumbers}
use Rattle.manifest.specs.Manifest.{Manifest}
use Rattle.state_model.specs.Merges.{choose}
use Rattle.store_core.proofs.TendNext.{not_chosen}
use Rattle.store_core.proofs.tending.next_job.Goals as goal

pub returns-in_ok-start-in-Some-clause-begun : goal.returns-in_ok-start-in-Some-clause-begun
returns-in_ok-start-in-Some-clause-begun g c =
    let tables = c.args.tables.now.tables in (
      c.in-Some.plan,
      subst (λ (o : Option PlanByNumbers). IfSome o (λ p. MayStart tables p)) c.in-Some.is c.in_ok-plan.ensures.starts,
      c.in_ok-start-in-Some.ensures.begun ∙ ap (λ (m : Manifest). begun c.in-Some.plan (settings_of m.version) tables) c.version.view_is,
      λ of_state agree. subst (λ (o : Option PlanByNumbers). IsPlanOf of_state o (choose of_state)) c.in-Some.is (c.in_ok-plan.ensures.chosen of_state agree),
    )

pub returns-in-None-clause-begun : goal.returns-in-None-clause-begun
returns-in-None-clause-begun g c of_state agree =
    not_chosen of_state (choose of_state) (subst (λ (o : Option PlanByNumbers). IsPlanOf of_state o (choose of_state)) c.in-None.is (c.in_ok-plan.ensures.chosen of_state agree))
