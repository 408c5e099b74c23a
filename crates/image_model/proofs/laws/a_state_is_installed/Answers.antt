use Rattle.image_model.proofs.Installs.{installed_ready, named_changed, numbers_changed}
use Rattle.image_model.proofs.Outputs.{outputs_are_tables}
use Rattle.image_model.proofs.laws.a_state_is_installed.Goals as goal

pub returns-clause-named : goal.returns-clause-named
returns-clause-named c = named_changed

pub returns-clause-numbers : goal.returns-clause-numbers
returns-clause-numbers c = numbers_changed

pub returns-clause-outputs : goal.returns-clause-outputs
returns-clause-outputs c = outputs_are_tables

pub returns-clause-is_ready : goal.returns-clause-is_ready
returns-clause-is_ready c = installed_ready
