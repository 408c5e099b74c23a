use Rattle.state_model.proofs.FullOutputs.{output_full, output_first}
use Rattle.state_model.proofs.laws.output_laws.Goals as goal

pub returns : goal.returns
returns c = record { full = output_full; first = output_first }
