use Rattle.state_model.proofs.Stepped.{stepped_deleted, stepped_few}
use Rattle.state_model.proofs.laws.stepped_are_deleted.Goals as goal

pub returns : goal.returns
returns c = record { key = stepped_deleted; count = stepped_few }
