use Rattle.state_model.proofs.Gets.{get_admitted, get_one, get_compacted}
use Rattle.state_model.proofs.laws.gets_are_bounded.Goals as goal

pub returns : goal.returns
returns c = record { few = get_admitted; one_level = get_one; behind_compaction = get_compacted }
