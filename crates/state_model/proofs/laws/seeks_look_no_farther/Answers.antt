use Rattle.state_model.proofs.Looks.{looks_no_farther}
use Rattle.state_model.proofs.laws.seeks_look_no_farther.Goals as goal

pub returns : goal.returns
returns c = looks_no_farther
