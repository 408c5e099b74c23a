use Rattle.state_model.specs.PlayLaws.{Allowed}
use Rattle.state_model.proofs.Alone.{no_slice}
use Rattle.state_model.proofs.laws.others_have_no_slice.Goals as goal

pub returns : goal.returns
returns c causes = no_slice (Allowed causes)
