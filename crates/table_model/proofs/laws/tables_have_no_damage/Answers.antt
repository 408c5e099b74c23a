use Rattle.table_model.proofs.Sound.{blocks_have_none, filter_has_none, filter_of_keys, index_has_none}
use Rattle.table_model.proofs.laws.tables_have_no_damage.Goals as goal

pub returns-clause-index : goal.returns-clause-index
returns-clause-index c = index_has_none

pub returns-clause-blocks : goal.returns-clause-blocks
returns-clause-blocks c = blocks_have_none

pub returns-clause-filter : goal.returns-clause-filter
returns-clause-filter c = filter_has_none

pub returns-clause-of_the_keys : goal.returns-clause-of_the_keys
returns-clause-of_the_keys c = filter_of_keys
