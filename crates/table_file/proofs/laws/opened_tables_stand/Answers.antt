use Rattle.table_file.proofs.Stands.{opened_stands}
use Rattle.table_file.proofs.laws.opened_tables_stand.Goals as goal

pub returns : goal.returns
returns c = opened_stands
