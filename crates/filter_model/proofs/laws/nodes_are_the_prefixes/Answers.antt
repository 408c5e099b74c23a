use Rattle.filter_model.proofs.Levels.{nodes_are_the_prefixes, nodes_stand_in_order}
use Rattle.filter_model.proofs.laws.nodes_are_the_prefixes.Goals as goal

pub returns : goal.returns
returns c = record { prefixes = nodes_are_the_prefixes; order = nodes_stand_in_order }
