use Rattle.table_model.proofs.Kept.{table_kept}
use Rattle.table_model.proofs.laws.tables_are_kept.Goals as goal

pub returns : goal.returns
returns c = table_kept
