use Rattle.extent_model.proofs.AnyOrder.{first_same, largest_same}
use Rattle.extent_model.proofs.laws.order_laws.Goals as goal

pub returns : goal.returns
returns c = record { first = first_same; largest = largest_same }
