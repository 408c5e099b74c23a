use Rattle.table_file.proofs.Standing.{standing_kept}
use Rattle.table_file.proofs.laws.standing_tables_are_kept.Goals as goal

pub returns : goal.returns
returns c = standing_kept
