use Rattle.state_model.specs.PlayLaws.{Never}
use Rattle.state_model.proofs.AnyCause.{ever_tends, ever_steps}
use Rattle.state_model.proofs.laws.any_cause.Goals as goal

pub returns-clause-tends : goal.returns-clause-tends
returns-clause-tends c = ever_tends Never

pub returns-clause-steps : goal.returns-clause-steps
returns-clause-steps c = ever_steps Never
