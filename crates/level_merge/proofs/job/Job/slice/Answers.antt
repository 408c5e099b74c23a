use Rattle.level_merge.proofs.Following.{makes_follow}
use Rattle.level_merge.proofs.job.Job.slice.Goals as goal

pub returns-clause-follows : goal.returns-clause-follows
returns-clause-follows g c tells =
    makes_follow _ _ _ _ _ _ _ _ _ _ (c.go_on.ensures.makes tells)
