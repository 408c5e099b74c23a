use Rattle.table_model.proofs.Sound.{block_rules, index_rules}
use Rattle.table_model.proofs.laws.damage_is_placed.Goals as goal

pub returns-clause-index : goal.returns-clause-index
returns-clause-index c = index_rules

pub returns-clause-block : goal.returns-clause-block
returns-clause-block c = block_rules
