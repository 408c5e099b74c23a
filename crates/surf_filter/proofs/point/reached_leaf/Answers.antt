use Rattle.surf_filter.proofs.point.reached_leaf.Goals as goal

pub returns-in-None-clause-leaf : goal.returns-in-None-clause-leaf
returns-in-None-clause-leaf g c = c.in-None.ensures.slot

pub returns-in-Some-clause-leaf : goal.returns-in-Some-clause-leaf
returns-in-Some-clause-leaf g c = c.in-Some.ensures.stub
