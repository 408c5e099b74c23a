use Rattle.std.proofs.Common.{subst}
use Rattle.std.specs.Prelude.{IfSome, Option}
use Rattle.level_merge.specs.Plans.{MayStart, PlanByNumbers}
use Rattle.compaction_tests.proofs.Numbers.{begun_there}
use Rattle.compaction_tests.proofs.merging.chosen.Goals as goal

pub returns-in_ok-start-in-Some : goal.returns-in_ok-start-in-Some
returns-in_ok-start-in-Some c =
    begun_there c.in-Some.plan _ c.args.tables.now.tables c.in_ok-start-in-Some.field-0
    (subst (λ (o : Option PlanByNumbers). IfSome o (λ p. MayStart c.args.tables.now.tables p)) c.in-Some.is c.in_ok-plan.ensures.starts) c.in_ok-start-in-Some.ensures.begun
