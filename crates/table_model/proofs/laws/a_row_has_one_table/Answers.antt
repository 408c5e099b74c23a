use Rattle.table_model.proofs.OneTable.{one_table}
use Rattle.table_model.proofs.Written.{table_stands}
use Rattle.table_model.proofs.laws.a_row_has_one_table.Goals as goal

pub returns-clause-one : goal.returns-clause-one
returns-clause-one c = one_table

pub returns-clause-stands : goal.returns-clause-stands
returns-clause-stands c = table_stands
