use Rattle.range_model.proofs.Hiding.{rows_in_sight, pairs_in_sight}
use Rattle.range_model.proofs.SameSource.{ranges_together}
use Rattle.range_model.proofs.laws.hiding_laws.Goals as goal

pub returns-clause-rows : goal.returns-clause-rows
returns-clause-rows c = rows_in_sight

pub returns-clause-pairs : goal.returns-clause-pairs
returns-clause-pairs c = pairs_in_sight

pub returns-clause-ranges : goal.returns-clause-ranges
returns-clause-ranges c = ranges_together
