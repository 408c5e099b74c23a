use Rattle.state_model.proofs.Steps.{at_first, worked_lowers, lines_no_more, job_ends}
use Rattle.state_model.proofs.laws.jobs_end.Goals as goal

pub returns-clause-first : goal.returns-clause-first
returns-clause-first c = at_first

pub returns-clause-lower : goal.returns-clause-lower
returns-clause-lower c = worked_lowers

pub returns-clause-lines : goal.returns-clause-lines
returns-clause-lines c = lines_no_more

pub returns-clause-ends : goal.returns-clause-ends
returns-clause-ends c = job_ends
