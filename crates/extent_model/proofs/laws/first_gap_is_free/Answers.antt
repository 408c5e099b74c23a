use Rattle.extent_model.proofs.Free.{gap_is_free}
use Rattle.extent_model.proofs.laws.first_gap_is_free.Goals as goal

pub returns : goal.returns
returns c = gap_is_free
