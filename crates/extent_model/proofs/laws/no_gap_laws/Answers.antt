use Rattle.extent_model.proofs.Rooms.{no_gap, gap_small}
use Rattle.extent_model.proofs.laws.no_gap_laws.Goals as goal

pub returns : goal.returns
returns c = record { none = no_gap; small = gap_small }
