use Rattle.entry_model.proofs.Bodies.{body_size}
use Rattle.entry_model.proofs.laws.body_has_its_length.Goals as goal

pub returns : goal.returns
returns c = body_size
