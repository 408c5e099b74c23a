use Rattle.map_model.proofs.Between.{none_exactly, sought_between, sought_least}
use Rattle.map_model.proofs.laws.seek_laws.Goals as goal

pub returns : goal.returns
returns c = record {
  none = none_exactly;
  between = sought_between;
  least = sought_least;
}
