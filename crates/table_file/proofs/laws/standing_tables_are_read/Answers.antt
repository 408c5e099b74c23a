use Rattle.table_file.proofs.Standing.{standing_blocks, standing_keys, standing_walks}
use Rattle.table_file.proofs.laws.standing_tables_are_read.Goals as goal

pub returns-clause-blocks : goal.returns-clause-blocks
returns-clause-blocks c = standing_blocks

pub returns-clause-keys : goal.returns-clause-keys
returns-clause-keys c = standing_keys

pub returns-clause-walks : goal.returns-clause-walks
returns-clause-walks c = standing_walks
