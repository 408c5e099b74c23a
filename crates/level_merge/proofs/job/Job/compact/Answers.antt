use Rattle.std.proofs.Common.{◌<◌, ◌∙◌, List, ℕ, length, ap, subst, sym, arith}
use Rattle.std.specs.List.{AllByRecursion}
use Rattle.level_merge.specs.JobValue.{all_numbers}
use Rattle.level_merge.proofs.Begun.{numbers_below}
use Rattle.level_merge.proofs.job.Job.compact.Goals as goal

pub of-requires-clause-there : goal.of-requires-clause-there
of-requires-clause-there g c =
    let many = length c.args.tables.now.tables in
    subst (λ (which : List ℕ). AllByRecursion (λ number. number < many) which) (sym (c.in_ok-which.ensures ∙ ap all_numbers c.len.ensures)) (numbers_below many many (omega arith))
