use Rattle.map_model.proofs.Between.{counted, count_crossed}
use Rattle.map_model.proofs.laws.count_laws.Goals as goal

pub returns : goal.returns
returns c = record {
  counts = counted;
  crossed = count_crossed;
}
