use Rattle.log_model.proofs.BrokenAreas.{an_area_of_kind_four}
use Rattle.log_model.proofs.examples.open_gates.Goals as goal

pub returns : goal.returns
returns c = record { kind_four_in_area_1 = an_area_of_kind_four }
